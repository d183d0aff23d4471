use Rattle.std.proofs.Common.{◌≡◌, drop, vec_items}
use Rattle.records.specs.Kinds.{condition_of}
use Rattle.records.specs.Reading.{bodies}
use Rattle.report.specs.Drafts.{conditions_fault, drafted}
use Rattle.report.proofs.draft.add_records.Given as goal

-- what is left of the conditions decides, over the same tables
abbrev pub invariant-loop-i : goal.invariant-loop-i
invariant-loop-i l =
    let first = l.initial.draft in
    let all = bodies condition_of 12 l.bytes in
    let left = drop l.i all in
    let lm = first.left.properties in
    let rm = first.right.properties in
    (conditions_fault lm rm 0 (vec_items first.comparisons) all ≡ conditions_fault lm rm l.i (vec_items l.draft.comparisons) left)
    × (drafted (vec_items first.comparisons) all ≡ drafted (vec_items l.draft.comparisons) left)
    × (l.draft.left ≡ first.left)
    × (l.draft.right ≡ first.right)
