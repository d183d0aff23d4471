-- Candidates, one after another.
use Rattle.std.specs.Prelude.{◌≡◌, ℕ, zero, suc, ◌^◌, ◌<◌, ◌≤◌, Bool, true, false, not, ◌&&◌, List, length, Some, None, filter, ◌==◌, ◌≢◌, bit_and, slice_index}
use Rattle.lattice.specs.Closed.{is_closed, next_closed}
use Rattle.lattice.specs.Sets.{range, empty}
use Rattle.lattice.specs.Widening.{including, SameMembers}

-- Whether x is a candidate: it has a condition, is closed, and some code includes it.
unfoldable pub is_candidate : ℕ → List ℕ → ℕ → Bool
is_candidate k codes x = not (x == 0) && is_closed k codes x && not (empty (including k x codes))

-- The candidates, ascending.
unfoldable pub candidates : ℕ → List ℕ → List ℕ
candidates k codes = filter (is_candidate k codes) (range (2 ^ k))

-- The last of the first n of a list, 0 before the first.
abbrev pub last_of : List ℕ → ℕ → ℕ
last_of xs zero = 0
last_of xs (suc n) = slice_index xs n

-- From the last of the first n candidates one step leads to the next, or tells that they are all.
pub record Steps (k : ℕ) (codes : List ℕ) (n : ℕ) : Type 0 where
  pub one_more : (z : ℕ) → next_closed k codes (last_of (candidates k codes) n) ≡ Some z → empty (including k z codes) ≡ false → (n < length (candidates k codes)) × (slice_index (candidates k codes) n ≡ z)
  pub none_includes : (z : ℕ) → next_closed k codes (last_of (candidates k codes) n) ≡ Some z → empty (including k z codes) ≡ true → n ≡ length (candidates k codes)
  pub none_left : next_closed k codes (last_of (candidates k codes) n) ≡ None → n ≡ length (candidates k codes)

-- The candidates are found one after another by steps.
abbrev pub CandidatesBySteps : Type 0
CandidatesBySteps = (k : ℕ) (codes : List ℕ) (n : ℕ) → n ≤ length (candidates k codes) → Steps k codes n

-- Each candidate is greater than those before it.
abbrev pub CandidatesAscend : Type 0
CandidatesAscend = (k : ℕ) (codes : List ℕ) (i j : ℕ) → i < j → j < length (candidates k codes) → slice_index (candidates k codes) i < slice_index (candidates k codes) j

-- There are fewer candidates than codes of k conditions.
abbrev pub CandidatesAreFewer : Type 0
CandidatesAreFewer = (k : ℕ) (codes : List ℕ) → length (candidates k codes) < 2 ^ k

-- The meet of two candidates that have a condition in common is a candidate.
abbrev pub MeetsAreCandidates : Type 0
MeetsAreCandidates = (k : ℕ) (codes : List ℕ) (x y : ℕ) → is_candidate k codes x ≡ true → is_candidate k codes y ≡ true → (bit_and x y ≢ 0) → is_candidate k codes (bit_and x y) ≡ true

-- Only the set of codes matters.
abbrev pub CandidatesByMembers : Type 0
CandidatesByMembers = (k : ℕ) (xs ys : List ℕ) → SameMembers xs ys → candidates k xs ≡ candidates k ys
