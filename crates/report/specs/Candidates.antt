-- What is told of the candidates of a relation, one after another.
use Rattle.std.specs.Prelude.{◌≡◌, ℕ, ◌<◌, ◌≤◌, Some, None, Ok, Err, string_bytes, Option, Result, String, slice_index}
use Rattle.std.specs.declared.alloc.AllocError.{AllocError}
use Rattle.std.specs.declared.alloc.Global.{Global}
use Rattle.contexts.specs.Relation.{Relation}
use Rattle.listings.specs.Candidates.{candidates}
use Rattle.listings.specs.Counts.{candidate_body}
use Rattle.listings.specs.Replies.{candidate_count}
use Rattle.report.specs.Lines.{candidate_line}

-- After w takes, the line of candidate number w, or nothing where there are no more; or no memory.
abbrev pub Told : Relation → ℕ → Result (Option (String Global)) AllocError → Type 0
Told c w (Ok (Some line)) = (w < candidate_count c) × (string_bytes line ≡ candidate_line (candidate_body c (slice_index (candidates c) w)))
Told c w (Ok None) = candidate_count c ≤ w
Told c w (Err e) = Unit {0}
