use Rattle.std.specs.Prelude.{ℕ, zero, suc, Bool, false, List, [], ◌∷◌, length}
use Rattle.contexts.specs.Relation.{Relation}
use Rattle.lattice.specs.Sets.{code_of}
use Rattle.tables.specs.Meaning.{Meaning}
use Rattle.drafts.specs.Comparisons.{comparison_holds}
use Rattle.drafts.specs.declared.comparison.Comparison.{Comparison}

-- Whether condition number i holds for left subject s and right subject t; beyond the list there is none.
abbrev pub holds_at : Meaning → Meaning → List Comparison → ℕ → ℕ → ℕ → Bool
holds_at left_meaning right_meaning [] s t i = false
holds_at left_meaning right_meaning (c ∷ cs) s t zero = comparison_holds left_meaning right_meaning c s t
holds_at left_meaning right_meaning (c ∷ cs) s t (suc i) = holds_at left_meaning right_meaning cs s t i

-- The code of the conditions that hold for a pair. None holds where either subject is absent, since its lists are empty.
abbrev pub live_code : Meaning → Meaning → List Comparison → ℕ → ℕ → ℕ
live_code left_meaning right_meaning cs s t = code_of (length cs) (holds_at left_meaning right_meaning cs s t)

-- The relation of two tables by a list of conditions.
abbrev pub live : Meaning → Meaning → List Comparison → Relation
live left_meaning right_meaning cs = record {
  lefts = left_meaning.subjects;
  rights = right_meaning.subjects;
  conditions = length cs;
  left_present = left_meaning.present;
  right_present = right_meaning.present;
  code = live_code left_meaning right_meaning cs;
}
