-- Sets of conditions as codes.
use Rattle.std.specs.Prelude.{◌≡◌, ℕ, ◌+◌, ◌-◌, ◌*◌, ◌/◌, ◌%◌, ◌^◌, ◌<◌, Bool, true, false, cond, ◌&&◌, List, [], ◌∷◌, sum_by, ◌==◌, bit_and}
use Rattle.std.specs.List.{range_with_len}

-- The numbers below n, ascending.
abbrev pub range : ℕ → List ℕ
range n = range_with_len 0 n

-- Whether every element passes.
abbrev pub every : {X : Type 0} → (X → Bool) → List X → Bool
every test [] = true
every test (x ∷ xs) = test x && every test xs

-- Whether there are no elements.
abbrev pub empty : {X : Type 0} → List X → Bool
empty [] = true
empty (x ∷ xs) = false

-- The weight of condition i of k; condition 0 weighs most.
unfoldable pub weight : ℕ → ℕ → ℕ
weight k i = 2 ^ (k - 1 - i)

-- Whether condition i of k is in the set whose code is x.
unfoldable pub has : ℕ → ℕ → ℕ → Bool
has k x i = x / weight k i % 2 == 1

-- The code of the set of those of k conditions that pass: the sum of their weights.
unfoldable pub code_of : ℕ → (ℕ → Bool) → ℕ
code_of k test = sum_by (λ i. cond (test i) (weight k i) 0) (range k)

-- The code of the set of all k conditions.
abbrev pub whole : ℕ → ℕ
whole k = 2 ^ k - 1

-- Whether y includes x: every condition of x is one of y.
unfoldable pub includes : ℕ → ℕ → ℕ → Bool
includes k x y = every (λ i. cond (has k x i) (has k y i) true) (range k)

-- Codes of k conditions are below 2^k.
abbrev pub CodesAreBelow : Type 0
CodesAreBelow = (k : ℕ) (test : ℕ → Bool) → code_of k test < 2 ^ k

-- The code of a test has the conditions that pass.
abbrev pub CodesHaveWhatPasses : Type 0
CodesHaveWhatPasses = (k : ℕ) (test : ℕ → Bool) (i : ℕ) → i < k → has k (code_of k test) i ≡ test i

-- Codes with the same conditions are equal.
abbrev pub SameConditionsSameCode : Type 0
SameConditionsSameCode = (k x y : ℕ) → x < 2 ^ k → y < 2 ^ k → ((i : ℕ) → i < k → has k x i ≡ has k y i) → x ≡ y

-- A code is the code of its own conditions.
abbrev pub CodesComeBack : Type 0
CodesComeBack = (k x : ℕ) → x < 2 ^ k → code_of k (has k x) ≡ x

-- One more condition doubles the code and adds the new one.
abbrev pub CodesGrow : Type 0
CodesGrow = (k : ℕ) (test : ℕ → Bool) → code_of (k + 1) test ≡ code_of k test * 2 + cond (test k) 1 0

-- The whole set has every condition.
abbrev pub WholeHasAll : Type 0
WholeHasAll = (k i : ℕ) → i < k → has k (whole k) i ≡ true

-- The bits of x and y together are the conditions that both have.
abbrev pub MeetsByBits : Type 0
MeetsByBits = (k x y i : ℕ) → has k (bit_and x y) i ≡ has k x i && has k y i

-- Inclusion is what `x & y == x` tests.
abbrev pub InclusionByBits : Type 0
InclusionByBits = (k x y : ℕ) → x < 2 ^ k → includes k x y ≡ (bit_and x y == x)
