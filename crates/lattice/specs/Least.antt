-- The least number that passes a test.
use Rattle.std.specs.Prelude.{◌≡◌, ℕ, ◌+◌, ◌-◌, ◌<◌, ◌≤◌, Bool, true, List, [], ◌∷◌, Some, None, filter, Option}
use Rattle.std.specs.List.{range_with_len}

-- The first element, if there is one.
abbrev pub first : {X : Type 0} → List X → Option X
first [] = None
first (x ∷ xs) = Some x

-- The least number above x and below n that passes, if one does.
unfoldable pub least_above : (ℕ → Bool) → ℕ → ℕ → Option ℕ
least_above test n x = first (filter test (range_with_len (x + 1) (n - (x + 1))))

-- z passes, above x and below n, and no smaller number there does.
pub record LeastAbove (test : ℕ → Bool) (n x z : ℕ) : Type 0 where
  pub passes : test z ≡ true
  pub within : z < n
  pub greater : x < z
  pub least : (y : ℕ) → y < n → test y ≡ true → x < y → z ≤ y

-- No number above x and below n passes.
unfoldable pub NoneAbove : (ℕ → Bool) → ℕ → ℕ → Type 0
NoneAbove test n x = (y : ℕ) → y < n → test y ≡ true → x < y → ⊥
