use Rattle.std.specs.Prelude.{◌≡◌, ℕ, Bool, ◌&&◌, List, Some, None, Option, Result, MatchResult, ◌==◌}
use Rattle.std.specs.Option.{option_map}
use Rattle.records.specs.Kinds.{kind_of, kind_number}
use Rattle.records.specs.declared.kinds.condition.Condition.{Condition}
use Rattle.records.specs.declared.kinds.condition.Kind.{Kind}
use Rattle.records.specs.declared.kinds.condition.UnknownKind.{UnknownKind}
use Rattle.records.specs.declared.kinds.condition.Kind.TheVariants.{Equal, Share}
use Rattle.tables.specs.Meaning.{Meaning}
use Rattle.drafts.specs.Conditions.{shares, equals}
use Rattle.drafts.specs.declared.comparison.Comparison.{Comparison}

-- Whether two lists agree by a kind of condition.
abbrev pub agree : Kind → List ℕ → List ℕ → Bool
agree Equal xs ys = equals xs ys
agree Share xs ys = shares xs ys

-- Whether a comparison holds for left subject s and right subject t: their lists at its properties agree.
abbrev pub comparison_holds : Meaning → Meaning → Comparison → ℕ → ℕ → Bool
comparison_holds left_meaning right_meaning c s t = agree c.kind (left_meaning.values s c.left) (right_meaning.values t c.right)

-- The comparison that a condition asks for, or nothing where its kind is not known.
abbrev pub comparison_of : Condition → Option Comparison
comparison_of c = option_map (λ (k : Kind). record { kind = k; left = c.left; right = c.right }) (kind_of c.kind)

-- What a condition converts to: the comparison that it asks for, or, where its kind is not known, an error with the number of that kind.
abbrev pub ComparisonOf : Condition → Result Comparison UnknownKind → Type 0
ComparisonOf c r = MatchResult r (λ x. comparison_of c ≡ Some x) (λ e. (comparison_of c ≡ None) × (e.0 ≡ c.kind))

-- Whether two comparisons are the same: of the same kind and the same properties.
abbrev pub same_comparison : Comparison → Comparison → Bool
same_comparison a b = kind_number a.kind == kind_number b.kind && (a.left == b.left && a.right == b.right)
