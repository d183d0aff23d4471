use Rattle.std.specs.Prelude.{◌≡◌, ℕ, ◌^◌, ◌<◌, ◌≤◌, Bool, false}

-- What a context means: how many subject numbers each side has, who is present there, how many conditions there are, and for each pair the code of the conditions that hold for it.
pub record Relation : Type 0 where
  pub lefts : ℕ
  pub rights : ℕ
  pub conditions : ℕ
  pub left_present : ℕ → Bool
  pub right_present : ℕ → Bool
  pub code : ℕ → ℕ → ℕ

-- What holds of every context's relation.
pub record Sound (c : Relation) : Type 0 where
  pub few_lefts : c.lefts ≤ 2048
  pub few_rights : c.rights ≤ 2048
  pub few_conditions : c.conditions ≤ 64
  pub left_absent_beyond : (s : ℕ) → c.lefts ≤ s → c.left_present s ≡ false
  pub right_absent_beyond : (t : ℕ) → c.rights ≤ t → c.right_present t ≡ false
  pub codes_below : (s t : ℕ) → c.code s t < 2 ^ c.conditions
  pub left_absent_none : (s t : ℕ) → c.left_present s ≡ false → c.code s t ≡ 0
  pub right_absent_none : (s t : ℕ) → c.right_present t ≡ false → c.code s t ≡ 0
