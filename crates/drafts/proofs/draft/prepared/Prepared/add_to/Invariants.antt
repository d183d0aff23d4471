use Rattle.std.proofs.Common.{◌≡◌, ℕ, ◌+◌, ◌*◌, ◌<◌, ◌≤◌, cond, get_or}
use Rattle.drafts.specs.Preparing.{prepared_holds}
use Rattle.drafts.proofs.draft.prepared.Prepared.add_to.Given as goal

abbrev pub invariant-loop-t : goal.invariant-loop-t
invariant-loop-t l =
    ((k : ℕ) → k < l.t → get_or l.row k 0 ≡ get_or l.initial.row k 0 * 2 + cond (prepared_holds l.self l.s k) 1 0)
    × ((k : ℕ) → l.t ≤ k → get_or l.row k 0 ≡ get_or l.initial.row k 0)
