use Rattle.std.proofs.Common.{rules, ap, ◌∙◌, sym}
use Rattle.std.proofs.lemmas.List.Sorted.{answers_always}
use Rattle.layers.specs.declared.folding_list.Folding.{Folding}
use Rattle.layers.proofs.FoldingSearch.{searched}
use Rattle.layers.proofs.folding_list.FoldingList.becomes.Goals as goal

pub returns-in-Ok : goal.returns-in-Ok
returns-in-Ok c =
    let facts = c.binary_search_by_key.ensures in
    let by_key = facts.position (λ entry. entry.from) (answers_always _ _ _ (λ f a r g called. search rules)) in
    let found = rw c.deref.ensures.value at (rw c.in-Ok.is at (searched _ (rw c.deref.ensures.value c.args.self.now.ascending) c.args.v _ facts.bound by_key)) in
    ap (λ (entry : Folding). entry.to) c.index.ensures ∙ sym (found c.index.result.now)

pub returns-in-Err : goal.returns-in-Err
returns-in-Err c =
    let facts = c.binary_search_by_key.ensures in
    let by_key = facts.position (λ entry. entry.from) (answers_always _ _ _ (λ f a r g called. search rules)) in
    sym (rw c.deref.ensures.value at (rw c.in-Err.is at (searched _ (rw c.deref.ensures.value c.args.self.now.ascending) c.args.v _ facts.bound by_key)))
