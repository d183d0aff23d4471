use Rattle.std.proofs.Common.{◌≡◌, ◌-◌, length, take, vec_items, vec_len}
use Rattle.drafts.proofs.draft.lists.copy_list.Given as goal

abbrev pub invariant-loop-v : goal.invariant-loop-v
invariant-loop-v g l = vec_items l.values ≡ take (vec_len l.values) ((g.T.Table.meaning l.table).values l.s l.p)

abbrev pub decreases-loop-v : goal.decreases-loop-v
decreases-loop-v g l = length ((g.T.Table.meaning l.table).values l.s l.p) - vec_len l.values
