use Rattle.std.proofs.Common.{◌≡◌, map}
use Rattle.lattice.specs.Sets.{range}
use Rattle.drafts.specs.Preparing.{lists}
use Rattle.drafts.proofs.draft.lists.copy_lists.Given as goal

abbrev pub invariant-loop-s : goal.invariant-loop-s
invariant-loop-s g l = lists l.lists ≡ map (λ s. (g.T.Table.meaning l.table).values s l.p) (range l.s)
