use Rattle.std.proofs.Common.{take, vec_items}
use Rattle.drafts.specs.Preparing.{AllPrepared}
use Rattle.drafts.proofs.draft.Draft.prepare.Given as goal

abbrev pub invariant-loop-comparison : goal.invariant-loop-comparison
invariant-loop-comparison g l =
    AllPrepared (g.L.Table.meaning l.self.left) (g.R.Table.meaning l.self.right) (take l.comparison-index (vec_items l.self.comparisons)) (vec_items l.comparisons)
