use Rattle.std.proofs.Common.{◌≡◌, ℕ, ◌<◌, get_or, vec_items}
use Rattle.drafts.specs.Live.{live_code}
use Rattle.drafts.proofs.draft.Draft.write_row.Given as goal

abbrev pub invariant-loop-t : goal.invariant-loop-t
invariant-loop-t g l =
    (k : ℕ) → k < l.t → get_or l.words k 0 ≡ live_code (g.L.Table.meaning l.self.left) (g.R.Table.meaning l.self.right) (vec_items l.self.comparisons) l.s k
