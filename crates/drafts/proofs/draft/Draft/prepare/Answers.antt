use Rattle.std.proofs.Common.{List, vec_items, subst, arith}
use Rattle.std.proofs.lemmas.List.{take_all}
use Rattle.drafts.specs.Preparing.{AllPrepared}
use Rattle.drafts.specs.declared.comparison.Comparison.{Comparison}
use Rattle.drafts.proofs.Preparing.{all_held, as_many, prepared_more}
use Rattle.drafts.proofs.draft.Draft.prepare.Goals as goal
use Rattle.drafts.proofs.draft.Draft.prepare.Goals.{After-loop-comparison}
use Rattle.drafts.proofs.draft.Draft.prepare.Given as given

-- at the end all comparisons are prepared
ready : (g : given.Over) (c : After-loop-comparison g) → AllPrepared (g.L.Table.meaning c.args.self.now.left) (g.R.Table.meaning c.args.self.now.right) (vec_items c.args.self.now.comparisons) (vec_items c.loop-comparison.comparisons)
ready g c =
    let v = c.args.self.now in
    let cs = c.deref-comparison-items in
    let P : List Comparison → Type 0 = λ us. AllPrepared (g.L.Table.meaning v.left) (g.R.Table.meaning v.right) us (vec_items c.loop-comparison.comparisons) in
    subst P (take_all c.loop-comparison.comparison-index (vec_items v.comparisons) (rw cs.ensures.value at c.loop-comparison-test.false)) c.loop-comparison.invariant

pub loop-comparison-preserved : goal.loop-comparison-preserved
loop-comparison-preserved g c =
    let v = c.args.self.now in
    let cs = c.deref-comparison-items in
    prepared_more
    (g.L.Table.meaning v.left)
    (g.R.Table.meaning v.right)
    (vec_items v.comparisons)
    (vec_items c.loop-comparison.comparisons)
    _
    c.loop-comparison.comparison-index
    _
    c.in_ok-of.field-0
    (rw cs.ensures.value at c.loop-comparison-test.true)
    c.loop-comparison.invariant
    (rw cs.ensures.value at c.in_ok-of.ensures)
    c.in_ok-push.ensures.items

pub invariant_of-result : goal.invariant_of-result
invariant_of-result g c =
    let v = c.args.self.now in
    let l = g.L.Table.meaning v.left in
    let r = g.R.Table.meaning v.right in
    let cs = vec_items v.comparisons in
    let ps = vec_items c.loop-comparison.comparisons in
    let all = ready g (goal.at.invariant_of-result g c).After-loop-comparison in
    record {
      few = omega (arith, as_many l r cs ps all, v.few, v.comparisons.ok.0, c.loop-comparison.comparisons.ok.0);
      few_subjects = (omega (arith, c.subjects.ensures, (g.met.L.Table.sound v.left).few_subjects), omega (arith, c.subjects-2.ensures, (g.met.R.Table.sound v.right).few_subjects));
      held = λ s h. all_held l r cs ps s c.subjects-2.result all (omega (arith, h, c.subjects.ensures)) c.subjects-2.ensures;
    }
