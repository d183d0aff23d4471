-- The relation of two sound tables is sound. These lemmas stand in specs/ and not in proofs/, since src/ cites the last of them.
use Rattle.std.specs.Prelude.{◌≡◌, ℕ, zero, suc, ◌≤◌, Bool, false, List, [], ◌∷◌, length, Vec, vec_items, vec_len, refl}
use Rattle.std.proofs.Common.{sym, ap, ◌∙◌, arith, add-one}
use Rattle.std.specs.declared.alloc.Global.{Global}
use Rattle.contexts.specs.Relation as relation
use Rattle.lattice.specs.Sets.{code_of}
use Rattle.lattice.proofs.Conditions.{code_of_below, code_of_more}
use Rattle.records.specs.declared.kinds.condition.Kind.{Kind}
use Rattle.records.specs.declared.kinds.condition.Kind.TheVariants.{Equal, Share}
use Rattle.tables.specs.Meaning.{Meaning, Sound}
use Rattle.drafts.specs.Comparisons.{agree}
use Rattle.drafts.specs.Conditions.{shares}
use Rattle.drafts.specs.Live.{holds_at, live}
use Rattle.drafts.specs.declared.comparison.Comparison.{Comparison}

-- A code depends on its tests alone.
pub code_alike : (k : ℕ) (f g : ℕ → Bool) → ((i : ℕ) → f i ≡ g i) → code_of k f ≡ code_of k g
code_alike k f g h = ap (code_of k) (λ i n. h n i)

code_none : (k : ℕ) → code_of k (λ _. false) ≡ 0
unfolding code_of
code_none zero = refl
code_none (suc k) = ap (λ (n : ℕ). code_of n (λ _. false)) (sym (add-one k)) ∙ code_of_more k (λ _. false) ∙ omega (arith, code_none k)

-- No list agrees with an empty one.
left_empty : (k : Kind) (ys : List ℕ) → agree k [] ys ≡ false
left_empty Equal ys = refl
left_empty Share ys = refl

shares_empty : (xs : List ℕ) → shares xs [] ≡ false
shares_empty [] = refl
shares_empty (x ∷ xs) = shares_empty xs

right_empty : (k : Kind) (xs : List ℕ) → agree k xs [] ≡ false
right_empty Equal [] = refl
right_empty Equal (x ∷ xs) = refl
right_empty Share xs = shares_empty xs

left_absent : (l r : Meaning) (s t : ℕ) → ((p : ℕ) → l.values s p ≡ []) → (cs : List Comparison) (i : ℕ) → holds_at l r cs s t i ≡ false
left_absent l r s t h [] i = refl
left_absent l r s t h (c ∷ cs) zero =
    ap (λ (xs : List ℕ). agree c.kind xs (r.values t c.right)) (h c.left) ∙ left_empty c.kind (r.values t c.right)
left_absent l r s t h (c ∷ cs) (suc i) = left_absent l r s t h cs i

right_absent : (l r : Meaning) (s t : ℕ) → ((q : ℕ) → r.values t q ≡ []) → (cs : List Comparison) (i : ℕ) → holds_at l r cs s t i ≡ false
right_absent l r s t h [] i = refl
right_absent l r s t h (c ∷ cs) zero =
    ap (λ (ys : List ℕ). agree c.kind (l.values s c.left) ys) (h c.right) ∙ right_empty c.kind (l.values s c.left)
right_absent l r s t h (c ∷ cs) (suc i) = right_absent l r s t h cs i

nothing_holds : (k : ℕ) (test : ℕ → Bool) → ((i : ℕ) → test i ≡ false) → code_of k test ≡ 0
nothing_holds k test h = code_alike k test (λ _. false) h ∙ code_none k

pub live_sound : (l r : Meaning) (cs : List Comparison) → Sound l → Sound r → length cs ≤ 64 → relation.Sound (live l r cs)
live_sound l r cs left right few =
    record {
      few_lefts = left.few_subjects;
      few_rights = right.few_subjects;
      few_conditions = few;
      left_absent_beyond = left.absent_beyond;
      right_absent_beyond = right.absent_beyond;
      codes_below = λ s t. code_of_below (length cs) (holds_at l r cs s t);
      left_absent_none = λ s t e. nothing_holds (length cs) (holds_at l r cs s t) (left_absent l r s t (λ p. left.empty_if_absent s p e) cs);
      right_absent_none = λ s t e. nothing_holds (length cs) (holds_at l r cs s t) (right_absent l r s t (λ q. right.empty_if_absent t q e) cs);
    }

-- what a draft keeps is what that asks
pub draft_sound : (l r : Meaning) (v : Vec Comparison Global) → Sound l → Sound r → vec_len v ≤ 64 → relation.Sound (live l r (vec_items v))
draft_sound l r v left right few = live_sound l r (vec_items v) left right (omega (arith, few, v.ok.0))
