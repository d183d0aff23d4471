use Rattle.std.specs.Prelude.{◌≡◌, ℕ, true, List, map}
use Rattle.tables.specs.Meaning.{Meaning, contains}
use Rattle.drafts.specs.Laws.{SameValues}
use Rattle.drafts.specs.Live.{live}
use Rattle.drafts.specs.declared.comparison.Comparison.{Comparison}

-- The left properties that comparisons name.
abbrev pub lefts_named : List Comparison → List ℕ
lefts_named cs = map (λ (c : Comparison). c.left) cs

-- The right properties that they name.
abbrev pub rights_named : List Comparison → List ℕ
rights_named cs = map (λ (c : Comparison). c.right) cs

-- Two tables are alike at some properties: the same subjects, the same presence, and at every subject and each of these properties the same values as sets.
pub record AlikeAt (ps : List ℕ) (t u : Meaning) : Type 0 where
  pub same_subjects : t.subjects ≡ u.subjects
  pub same_presence : (s : ℕ) → t.present s ≡ u.present s
  pub same_values : (s p : ℕ) → contains ps p ≡ true → SameValues (t.values s p) (u.values s p)

-- Tables that are alike to these at the properties that the comparisons name have the same relation.
abbrev pub AlikeTablesRelateAlike : Meaning → Meaning → List Comparison → Type 0
AlikeTablesRelateAlike left_meaning right_meaning cs =
    (l r : Meaning) → AlikeAt (lefts_named cs) left_meaning l → AlikeAt (rights_named cs) right_meaning r → live left_meaning right_meaning cs ≡ live l r cs
