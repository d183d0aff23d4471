use Rattle.std.proofs.Common.{◌≡◌, ℕ, ◌<◌, length, get_or, vec_items}
use Rattle.lattice.specs.Sets.{code_of}
use Rattle.drafts.specs.Preparing.{prepared_at}
use Rattle.drafts.proofs.draft.prepared.PreparedDraft.write_row.Given as goal

abbrev pub invariant-loop-comparison : goal.invariant-loop-comparison
invariant-loop-comparison l =
    (t : ℕ) → t < length l.row → get_or l.row t 0 ≡ code_of l.comparison-index (prepared_at (vec_items l.self.comparisons) l.s t)
