-- The widening of a set over a list of codes.
use Rattle.std.specs.Prelude.{◌≡◌, ℕ, ◌^◌, ◌<◌, Bool, true, cond, ◌&&◌, List, map, fold, filter, ◌==◌, bit_and}
use Rattle.std.specs.List.{ContainsAt as Has}
use Rattle.lattice.specs.Sets.{every, empty, has, code_of, whole, includes}

-- Those of the codes that include x.
unfoldable pub including : ℕ → ℕ → List ℕ → List ℕ
including k x codes = filter (includes k x) codes

-- The conditions that all codes have that include x: all k conditions where none does.
unfoldable pub widening : ℕ → List ℕ → ℕ → ℕ
widening k codes x = code_of k (λ i. every (λ c. has k c i) (including k x codes))

-- One pass over the codes: from a first set on, the meet with each code that includes x.
unfoldable pub running_meet : ℕ → List ℕ → ℕ → ℕ
running_meet start codes x = fold (λ all c. cond (bit_and c x == x) (bit_and all c) all) start codes

-- The same codes stand in both lists, in any order and number.
abbrev pub SameMembers : List ℕ → List ℕ → Type 0
SameMembers xs ys = (c : ℕ) → (Has xs c → Has ys c) × (Has ys c → Has xs c)

-- The running meet from the whole set on is the widening.
abbrev pub RunningMeetWidens : Type 0
RunningMeetWidens = (k : ℕ) (codes : List ℕ) (x : ℕ) → x < 2 ^ k → running_meet (whole k) codes x ≡ widening k codes x

-- A set is included in its widening.
abbrev pub WideningExtends : Type 0
WideningExtends = (k : ℕ) (codes : List ℕ) (x : ℕ) → includes k x (widening k codes x) ≡ true

-- The widening grows with its set.
abbrev pub WideningGrows : Type 0
WideningGrows = (k : ℕ) (codes : List ℕ) (x y : ℕ) → includes k x y ≡ true → includes k (widening k codes x) (widening k codes y) ≡ true

-- Widening again changes nothing.
abbrev pub WideningSettles : Type 0
WideningSettles = (k : ℕ) (codes : List ℕ) (x : ℕ) → widening k codes (widening k codes x) ≡ widening k codes x

-- The codes that include the widening are those that include the set.
abbrev pub WideningKeepsCodes : Type 0
WideningKeepsCodes = (k : ℕ) (codes : List ℕ) (x : ℕ) → including k (widening k codes x) codes ≡ including k x codes

-- Only the set of codes matters.
abbrev pub WideningByMembers : Type 0
WideningByMembers = (k : ℕ) (xs ys : List ℕ) → SameMembers xs ys → (x : ℕ) → widening k xs x ≡ widening k ys x

-- Over the codes of the present pairs, the widening is what the links of x have: the present pairs whose code includes x.
abbrev pub WideningByLinks : Type 0
WideningByLinks = (k : ℕ) (pairs : List (ℕ × ℕ)) (present : ℕ × ℕ → Bool) (code : ℕ × ℕ → ℕ) (x : ℕ) →
    widening k (map code (filter present pairs)) x ≡ code_of k (λ i. every (λ p. has k (code p) i) (filter (λ p. present p && includes k x (code p)) pairs))

-- And some code includes x where x has a link.
abbrev pub IncludingByLinks : Type 0
IncludingByLinks = (k : ℕ) (pairs : List (ℕ × ℕ)) (present : ℕ × ℕ → Bool) (code : ℕ × ℕ → ℕ) (x : ℕ) →
    empty (including k x (map code (filter present pairs))) ≡ empty (filter (λ p. present p && includes k x (code p)) pairs)
