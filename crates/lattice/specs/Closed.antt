-- Closed codes, and the step from one to the next.
use Rattle.std.specs.Prelude.{◌≡◌, ℕ, ◌+◌, ◌*◌, ◌/◌, ◌%◌, ◌^◌, ◌<◌, Bool, true, List, Some, None, Option, ◌==◌, bit_and}
use Rattle.lattice.specs.Least.{least_above, LeastAbove, NoneAbove}
use Rattle.lattice.specs.Widening.{widening, SameMembers}

-- Whether a code equals its widening.
unfoldable pub is_closed : ℕ → List ℕ → ℕ → Bool
is_closed k codes x = widening k codes x == x

-- The least closed code above x, if there is one.
unfoldable pub next_closed : ℕ → List ℕ → ℕ → Option ℕ
next_closed k codes x = least_above (is_closed k codes) (2 ^ k) x

-- x with the condition of weight 2^j added and every condition of less weight taken out.
unfoldable pub raised : ℕ → ℕ → ℕ
raised x j = x / 2 ^ (j + 1) * 2 ^ (j + 1) + 2 ^ j

-- The closed code that is tried at place j.
unfoldable pub trial : ℕ → List ℕ → ℕ → ℕ → ℕ
trial k codes x j = widening k codes (raised x j)

-- x lacks the condition at place j, and the trial there changes none of more weight.
pub record Accepted (k : ℕ) (codes : List ℕ) (x j : ℕ) : Type 0 where
  pub place : j < k
  pub lacks : x / 2 ^ j % 2 ≡ 0
  pub kept : trial k codes x j / 2 ^ (j + 1) ≡ x / 2 ^ (j + 1)

-- j is the lowest place whose trial is accepted.
pub record FirstAccepted (k : ℕ) (codes : List ℕ) (x j : ℕ) : Type 0 where
  pub accepted : Accepted k codes x j
  pub none_lower : (i : ℕ) → i < j → Accepted k codes x i → ⊥

-- The meet of two closed codes is closed.
abbrev pub MeetsAreClosed : Type 0
MeetsAreClosed = (k : ℕ) (codes : List ℕ) (x y : ℕ) → is_closed k codes x ≡ true → is_closed k codes y ≡ true → is_closed k codes (bit_and x y) ≡ true

-- What `next_closed` finds is the least closed code above x.
abbrev pub NextIsLeast : Type 0
NextIsLeast = (k : ℕ) (codes : List ℕ) (x z : ℕ) → next_closed k codes x ≡ Some z → LeastAbove (is_closed k codes) (2 ^ k) x z

-- Where it finds none, no closed code is above x.
abbrev pub NoneIsLast : Type 0
NoneIsLast = (k : ℕ) (codes : List ℕ) (x : ℕ) → next_closed k codes x ≡ None → NoneAbove (is_closed k codes) (2 ^ k) x

-- The first accepted trial, from place 0 up, is the least closed code above x.
abbrev pub FirstAcceptedIsNext : Type 0
FirstAcceptedIsNext = (k : ℕ) (codes : List ℕ) (x j : ℕ) → x < 2 ^ k → FirstAccepted k codes x j → next_closed k codes x ≡ Some (trial k codes x j)

-- Where no trial is accepted, there is none.
abbrev pub NoneAcceptedIsLast : Type 0
NoneAcceptedIsLast = (k : ℕ) (codes : List ℕ) (x : ℕ) → x < 2 ^ k → ((j : ℕ) → Accepted k codes x j → ⊥) → next_closed k codes x ≡ None

-- Only the set of codes matters.
abbrev pub NextByMembers : Type 0
NextByMembers = (k : ℕ) (xs ys : List ℕ) → SameMembers xs ys → (x : ℕ) → next_closed k xs x ≡ next_closed k ys x
