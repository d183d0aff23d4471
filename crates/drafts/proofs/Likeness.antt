-- Alike tables have the same relation.
use Rattle.std.proofs.Common.{◌≡◌, ℕ, zero, suc, true, List, [], ◌∷◌, length, refl}
use Rattle.records.specs.declared.kinds.condition.Kind.{Kind}
use Rattle.records.specs.declared.kinds.condition.Kind.TheVariants.{Equal, Share}
use Rattle.tables.specs.Meaning.{Meaning, contains}
use Rattle.drafts.specs.Alike.{lefts_named, rights_named, AlikeTablesRelateAlike}
use Rattle.drafts.specs.Comparisons.{agree}
use Rattle.drafts.specs.Laws.{SameValues}
use Rattle.drafts.specs.Live.{holds_at, live_code}
use Rattle.drafts.specs.declared.comparison.Comparison.{Comparison}
use Rattle.drafts.specs.Soundness.{code_alike}
use Rattle.drafts.proofs.Values.{contains_first, contains_rest, equals_alike, shares_alike}

agree_alike : (k : Kind) (xs us ys vs : List ℕ) → SameValues xs us → SameValues ys vs → agree k xs ys ≡ agree k us vs
agree_alike Equal xs us ys vs h k = equals_alike xs us ys vs h k
agree_alike Share xs us ys vs h k = shares_alike xs us ys vs h k

holds_alike :
    (l r l' r' : Meaning) (s t : ℕ) (cs : List Comparison)
    → ((p : ℕ) → contains (lefts_named cs) p ≡ true → SameValues (l.values s p) (l'.values s p))
    → ((q : ℕ) → contains (rights_named cs) q ≡ true → SameValues (r.values t q) (r'.values t q))
    → (i : ℕ)
    → holds_at l r cs s t i ≡ holds_at l' r' cs s t i
holds_alike l r l' r' s t [] left right i = refl
holds_alike l r l' r' s t (c ∷ cs) left right zero =
    agree_alike c.kind (l.values s c.left) (l'.values s c.left) (r.values t c.right) (r'.values t c.right) (left c.left (contains_first c.left (lefts_named cs))) (right c.right (contains_first c.right (rights_named cs)))
holds_alike l r l' r' s t (c ∷ cs) left right (suc i) =
    holds_alike l r l' r' s t cs (λ p h. left p (contains_rest c.left p (lefts_named cs) h)) (λ q h. right q (contains_rest c.right q (rights_named cs) h)) i

-- pointwise equal fields make equal relations
pub live_alike : (l r : Meaning) (cs : List Comparison) → AlikeTablesRelateAlike l r cs
live_alike l r cs l' r' left right =
    let same : (s t : ℕ) → live_code l r cs s t ≡ live_code l' r' cs s t = λ s t. code_alike (length cs) (holds_at l r cs s t) (holds_at l' r' cs s t) (holds_alike l r l' r' s t cs (left.same_values s) (right.same_values t)) in
    λ i. record { lefts = left.same_subjects i; rights = right.same_subjects i; conditions = length cs; left_present = λ s. left.same_presence s i; right_present = λ t. right.same_presence t i; code = λ s t. same s t i }
