use Rattle.std.specs.Prelude.{◌≡◌, ℕ, ◌^◌, ◌<◌, ◌≤◌, Bool, true, false, cond, List, [], ◌∷◌, length, ◌==◌}
use Rattle.std.specs.List.{AllByRecursion}

-- What a table means: how many subject numbers and properties there are, who is present, and the list of values at each subject and property.
pub record Meaning : Type 0 where
  pub subjects : ℕ
  pub properties : ℕ
  pub present : ℕ → Bool
  pub values : ℕ → ℕ → List ℕ

-- What holds of every table's meaning.
pub record Sound (t : Meaning) : Type 0 where
  pub few_subjects : t.subjects ≤ 2048
  pub few_properties : t.properties ≤ 64
  pub absent_beyond : (s : ℕ) → t.subjects ≤ s → t.present s ≡ false
  pub empty_if_absent : (s p : ℕ) → t.present s ≡ false → t.values s p ≡ []
  pub empty_beyond : (s p : ℕ) → t.properties ≤ p → t.values s p ≡ []
  pub short_lists : (s p : ℕ) → length (t.values s p) ≤ 65536
  pub four_byte_values : (s p : ℕ) → AllByRecursion (λ v. v < 2 ^ 32) (t.values s p)

-- Whether a value is in a list.
abbrev pub contains : List ℕ → ℕ → Bool
contains [] v = false
contains (x ∷ xs) v = cond (x == v) true (contains xs v)
