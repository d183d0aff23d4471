use Rattle.std.proofs.Common.{ltb, rules, sym, ◌∙◌}
use borrow.Author.Tests.{tests}
use Rattle.std.proofs.lemmas.Iterator.{YieldsList-from_slice}
use Rattle.std.proofs.lemmas.Iterator.Search.{all_from_yields_List}
use Rattle.std.proofs.lemmas.List.Folds.{list_all-map}
use Rattle.layers.specs.declared.folding_list.Folding.{Folding}
use Rattle.layers.proofs.folding_list.FoldingList.ends_below.Goals as goal

pub returns : goal.returns
returns c =
    let found = all_from_yields_List (λ (e : Folding). ltb e.from c.args.n) _ _ c.all.result c.all.ensures.ran (YieldsList-from_slice c.deref.result.now cc) (λ x r q k. search (rules, tests)) in
    found ∙ rw c.deref.ensures.value (sym (list_all-map (λ x. ltb x c.args.n) (λ (e : Folding). e.from) _))
