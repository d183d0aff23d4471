-- The answer to each call, by how many takes with space came before it.
use Rattle.std.specs.Prelude.{ℕ, ◌+◌, min, cond, List, [], ◌∷◌, length, ◌==◌, nat_lt, slice_index}
use Rattle.contexts.specs.Relation.{Relation}
use Rattle.lattice.specs.Candidates.{last_of}
use Rattle.records.specs.Writing.{has_space, put_at}
use Rattle.listings.specs.Calls.{Ask, take_at, page_from, tally_now, total_now, Reply, handed, ended, refused, tallied, totalled, with_space}
use Rattle.listings.specs.Candidates.{candidates}
use Rattle.listings.specs.Counts.{candidate_bytes}
use Rattle.listings.specs.Links.{links}
use Rattle.listings.specs.Pages.{page_reply}

-- How many candidates there are.
unfoldable pub candidate_count : Relation → ℕ
candidate_count c = length (candidates c)

-- How many were handed out after w takes with space.
abbrev pub handed_count : Relation → ℕ → ℕ
handed_count c w = min w (candidate_count c)

-- The answer to a call after w takes with space: 24 for a take without space, 25 for a page before the first candidate, 28 for a total before the end was told.
unfoldable pub reply : Relation → ℕ → Ask → Reply
reply c w (take_at at b) =
    cond (has_space 32 at b)
    (cond (nat_lt w (candidate_count c)) (handed (put_at at (candidate_bytes c (slice_index (candidates c) w)) b)) (ended b))
    (refused (24, 0) b)
reply c w (page_from from b) =
    cond (handed_count c w == 0) (refused (25, 0) b) (page_reply (links c (last_of (candidates c) (handed_count c w))) from b)
reply c w tally_now = tallied (handed_count c w) (last_of (candidates c) (handed_count c w)) (nat_lt (candidate_count c) w)
reply c w total_now = cond (nat_lt (candidate_count c) w) (totalled (candidate_count c)) (refused (28, 0) [])

-- The answers to the calls, the first after w takes with space.
abbrev pub replies : Relation → ℕ → List Ask → List Reply
replies c w [] = []
replies c w (a ∷ more) = reply c w a ∷ replies c (w + with_space a) more
