-- Comparisons are the same where their kinds and their properties are.
use Rattle.std.proofs.Common.{◌≡◌, ℕ, Bool, true, false, ◌&&◌, eqb, sym, refl, ap₂, ◌∙◌}
use Rattle.std.proofs.lemmas.Bool.{eqb-true, eq-eqb}
use denote.Enum.Bare.{sameb}
use Rattle.records.specs.Kinds.{kind_number}
use Rattle.records.specs.contracts.kinds.condition.Kind.{the_type}
use Rattle.records.specs.declared.kinds.condition.Kind.{Kind}
use Rattle.records.specs.declared.kinds.condition.Kind.TheVariants.{Equal, Share}
use Rattle.drafts.specs.Comparisons.{same_comparison}
use Rattle.drafts.specs.declared.comparison.Comparison.{Comparison}

eqb_mutual : (n m : ℕ) → eqb n m ≡ eqb m n
eqb_mutual n m = by (eqb n m) (eqb m n) refl refl
  where
    by : (u v : Bool) → eqb n m ≡ u → eqb m n ≡ v → u ≡ v
    by true true e f = refl
    by false false e f = refl
    by true false e f = sym (eq-eqb m n (sym (eqb-true n m e))) ∙ f
    by false true e f = sym e ∙ eq-eqb n m (sym (eqb-true m n f))

kind_asked : (a b : Kind) → sameb the_type b a ≡ eqb (kind_number a) (kind_number b)
kind_asked Equal Equal = refl
kind_asked Equal Share = refl
kind_asked Share Equal = refl
kind_asked Share Share = refl

-- What `==` asks of two comparisons, the other way round.
pub asked_is_same : (a b : Comparison) → (sameb the_type b.kind a.kind && (eqb b.left a.left && eqb b.right a.right)) ≡ same_comparison a b
asked_is_same a b =
    ap₂ (λ (u v : Bool). u && v) (kind_asked a.kind b.kind) (ap₂ (λ (u v : Bool). u && v) (eqb_mutual b.left a.left) (eqb_mutual b.right a.right))
