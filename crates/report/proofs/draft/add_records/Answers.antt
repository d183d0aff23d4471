use Rattle.std.proofs.Common.{◌+◌, List, drop, vec_items, sym, ap, ◌∙◌}
use Rattle.records.specs.Kinds.{condition_of}
use Rattle.records.specs.Reading.{bodies}
use Rattle.drafts.specs.declared.comparison.Comparison.{Comparison}
use Rattle.report.specs.Drafts.{condition_at, conditions_fault, drafted}
use Rattle.std.proofs.lemmas.Result.{err_from_is_err_and}
use Rattle.report.proofs.Adding.{fault_more, fault_here, drafted_more, none_left, same_tables}
use Rattle.report.proofs.draft.add_records.Goals as goal

pub loop-i-preserved : goal.loop-i-preserved
loop-i-preserved c =
    let first = c.args.draft.now in
    let xs = c.args.bytes.now in
    let i = c.loop-i.i in
    let cs = vec_items c.loop-i.draft.comparisons in
    let inv = c.loop-i.invariant in
    let added = c.in_ok-add_record.ensures in
    let lm = first.left.properties in
    let rm = first.right.properties in
    let rest = drop (i + 1) (bodies condition_of 12 xs) in
    let none = same_tables i cs (condition_at xs i) inv.2 inv.3 ∙ added.answer in (
      inv.0 ∙ fault_more lm rm i cs xs c.loop-i-test.true none ∙ ap (λ (v : List Comparison). conditions_fault lm rm (i + 1) v rest) (sym added.after),
      inv.1 ∙ drafted_more i cs xs c.loop-i-test.true ∙ ap (λ (v : List Comparison). drafted v rest) (sym added.after),
      added.left ∙ inv.2,
      added.right ∙ inv.3,
    )

pub returns-in_err-add_record-clause-answer : goal.returns-in_err-add_record-clause-answer
returns-in_err-add_record-clause-answer c =
    let first = c.args.draft.now in
    let xs = c.args.bytes.now in
    let i = c.loop-i.i in
    let cs = vec_items c.loop-i.draft.comparisons in
    let inv = c.loop-i.invariant in
    let here = same_tables i cs (condition_at xs i) inv.2 inv.3 ∙ c.in_err-add_record.ensures.answer in
    let p = err_from_is_err_and c.from_residual.result c.from_residual.ensures.1 in
    rw (p.1, p.2) (inv.0 ∙ fault_here first.left.properties first.right.properties i cs xs _ c.loop-i-test.true here)

pub returns : goal.returns
returns c =
    let first = c.args.draft.now in
    let i = c.loop-i.i in
    let cs = vec_items c.loop-i.draft.comparisons in
    let inv = c.loop-i.invariant in
    let end = none_left i c.args.bytes.now c.loop-i-test.false in
    record {
      answer = inv.0 ∙ ap (conditions_fault first.left.properties first.right.properties i cs) end;
      after = sym (inv.1 ∙ ap (drafted cs) end);
      left = inv.2;
      right = inv.3;
    }
