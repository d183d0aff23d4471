use Rattle.std.proofs.Common.{◌≡◌, ◌-◌, length, drop}
use Rattle.drafts.specs.Conditions.{within}
use Rattle.drafts.proofs.conditions.lie_within.Given as goal

abbrev pub invariant-loop-v : goal.invariant-loop-v
invariant-loop-v g l =
    within (drop l.i ((g.L.Table.meaning l.left.table.now).values l.left.subject l.left.property)) ((g.R.Table.meaning l.right.table.now).values l.right.subject l.right.property)
    ≡ within ((g.L.Table.meaning l.left.table.now).values l.left.subject l.left.property) ((g.R.Table.meaning l.right.table.now).values l.right.subject l.right.property)

abbrev pub decreases-loop-v : goal.decreases-loop-v
decreases-loop-v g l = length ((g.L.Table.meaning l.left.table.now).values l.left.subject l.left.property) - l.i
