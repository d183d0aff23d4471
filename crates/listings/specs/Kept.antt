-- What every run of calls on one listing owes, said of the run itself: each call is judged by what the run handed out and said before it.
use Rattle.std.specs.Prelude.{◌≡◌, ℕ, ◌+◌, ◌<◌, ◌≤◌, Bool, true, false, cond, not, ◌⊎◌, List, [], ◌∷◌, ◌++◌, length, take, drop, Some, filter, slice_index}
use Rattle.std.specs.List.{slice_get}
use Rattle.contexts.specs.Relation.{Relation}
use Rattle.lattice.specs.Candidates.{last_of}
use Rattle.lattice.specs.Sets.{empty}
use Rattle.records.specs.Fields.{fields_in}
use Rattle.records.specs.Kinds.{candidate_of}
use Rattle.records.specs.Refusals.{Refusal}
use Rattle.records.specs.Writing.{put_at}
use Rattle.listings.specs.Calls.{Ask, take_at, page_from, tally_now, total_now, Reply, handed, ended, paged, refused, tallied, totalled, buffer_of, takes_with_space}
use Rattle.listings.specs.Candidates.{candidates}
use Rattle.listings.specs.Counts.{candidate_bytes}
use Rattle.listings.specs.Links.{links}
use Rattle.listings.specs.Pages.{page_reply}

-- The code in the record that stands at an offset of a buffer.
unfoldable pub code_at : ℕ → List ℕ → ℕ
code_at at b = (candidate_of (fields_in (take 32 (drop at b)))).code

-- The code that a call handed out, read from the record that it wrote.
abbrev pub code_handed : Ask → Reply → List ℕ
code_handed (take_at at b) (handed after) = code_at at after ∷ []
code_handed (take_at at b) (ended after) = []
code_handed (take_at at b) (paged n after) = []
code_handed (take_at at b) (refused refusal after) = []
code_handed (take_at at b) (tallied n x e) = []
code_handed (take_at at b) (totalled n) = []
code_handed (page_from from b) r = []
code_handed tally_now r = []
code_handed total_now r = []

-- The codes that a run handed out, in their order.
abbrev pub codes_handed : List Ask → List Reply → List ℕ
codes_handed [] rs = []
codes_handed (a ∷ more) [] = []
codes_handed (a ∷ more) (r ∷ rs) = code_handed a r ++ codes_handed more rs

-- The codes that it handed out before place j.
abbrev pub handed_before : ℕ → List Ask → List Reply → List ℕ
handed_before j asks rs = codes_handed (take j asks) (take j rs)

-- The last of the codes, 0 where there is none.
abbrev pub last_code : List ℕ → ℕ
last_code codes = last_of codes (length codes)

-- Whether an answer says "ended".
abbrev pub says_ended : Reply → Bool
says_ended (handed b) = false
says_ended (ended b) = true
says_ended (paged n b) = false
says_ended (refused refusal b) = false
says_ended (tallied n x e) = false
says_ended (totalled n) = false

-- Whether one of the answers says it.
abbrev pub some_ended : List Reply → Bool
some_ended rs = not (empty (filter says_ended rs))

-- x stands at place j.
abbrev pub Stands : {X : Type 0} → List X → ℕ → X → Type 0
Stands xs j x = slice_get xs j ≡ Some x

-- What a run of calls over a relation owes.
pub record Kept (c : Relation) (asks : List Ask) (rs : List Reply) : Type 0 where
  -- Every call has one answer.
  pub every_call_is_answered : length rs ≡ length asks
  -- The codes handed out are the candidates in ascending order, one for each take with space, until none is left.
  pub handed_out_in_order : codes_handed asks rs ≡ take (takes_with_space asks) (candidates c)
  -- A take with space says "ended" exactly where every candidate was handed out before it, and leaves its buffer.
  pub ended_exactly_after_the_last : (j at : ℕ) (b : List ℕ) → Stands asks j (take_at at b) → at + 32 ≤ length b →
      (Stands rs j (ended b) → handed_before j asks rs ≡ candidates c) × (handed_before j asks rs ≡ candidates c → Stands rs j (ended b))
  -- Any other take with space writes the record of the next candidate at its offset, and no other byte.
  pub record_is_of_its_code : (j at : ℕ) (b : List ℕ) → Stands asks j (take_at at b) → at + 32 ≤ length b →
      Stands rs j (ended b) ⊎ Stands rs j (handed (put_at at (candidate_bytes c (slice_index (candidates c) (length (handed_before j asks rs)))) b))
  -- A take without space is turned down.
  pub take_needs_space : (j at : ℕ) (b : List ℕ) → Stands asks j (take_at at b) → length b < at + 32 → Stands rs j (refused (24, 0) b)
  -- A page before the first candidate is turned down.
  pub page_needs_a_candidate : (j from : ℕ) (b : List ℕ) → Stands asks j (page_from from b) → handed_before j asks rs ≡ [] → Stands rs j (refused (25, 0) b)
  -- A page lists the links of the code that was handed out last.
  pub page_lists_links_of_the_last_code : (j from : ℕ) (b : List ℕ) → Stands asks j (page_from from b) → 0 < length (handed_before j asks rs) →
      Stands rs j (page_reply (links c (last_code (handed_before j asks rs))) from b)
  -- A tally tells how many were handed out before it, the last code, and whether a take has said "ended".
  pub tally_tells_what_was_handed_out : (j : ℕ) → Stands asks j tally_now →
      Stands rs j (tallied (length (handed_before j asks rs)) (last_code (handed_before j asks rs)) (some_ended (take j rs)))
  -- A total tells how many candidates there are, once a take has said "ended".
  pub total_is_told_after_the_end : (j : ℕ) → Stands asks j total_now →
      Stands rs j (cond (some_ended (take j rs)) (totalled (length (candidates c))) (refused (28, 0) []))
  -- A call that is turned down leaves its buffer as it was.
  pub turned_down_calls_leave_their_buffer : (j : ℕ) (a : Ask) (refusal : Refusal) (b : List ℕ) → Stands asks j a → Stands rs j (refused refusal b) → b ≡ buffer_of a
