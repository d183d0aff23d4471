use Rattle.std.proofs.Common.{◌||◌, ◌==◌, rules, ◌∙◌}
use borrow.Author.Tests.{tests}
use Rattle.std.proofs.lemmas.Iterator.{YieldsList-from_slice}
use Rattle.std.proofs.lemmas.Iterator.Search.{any_from_yields_List}
use Rattle.layers.specs.declared.folding_list.Folding.{Folding}
use Rattle.layers.proofs.FoldingSearch.{chains_found}
use Rattle.layers.proofs.folding_list.FoldingList.chains.Goals as goal

pub returns-else-from-to : goal.returns-else-from-to
returns-else-from-to c =
    let found = any_from_yields_List (λ (e : Folding). e.from == c.args.to || e.to == c.args.from) _ _ c.any.result c.any.ensures.ran (YieldsList-from_slice c.deref.result.now cc) (λ x r q k. search (rules, tests)) in
    found ∙ rw c.deref.ensures.value (chains_found _ c.args.from c.args.to c.if-from-to.false)
