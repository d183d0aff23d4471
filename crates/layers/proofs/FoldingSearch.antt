-- What the searches through a folding list find.
use Rattle.std.proofs.Common.{◌≡◌, ℕ, zero, suc, ◌<◌, ◌≤◌, ◌||◌, List, [], ◌∷◌, length, get_or, Result, Ok, Err, MatchResult, ◌==◌, sym, refl, ap, arith}
use Rattle.std.specs.List.{list_any}
use Rattle.std.specs.List.Sorted.{IsSearchInRange, IsBinarySearchResult, IsNonDecreasingBy, IsStrictlyIncreasing}
use Rattle.std.specs.Ordering.{nat_cmp, ordering_index}
use Rattle.std.proofs.lemmas.Bool.Decides.{nat_tests}
use Rattle.std.proofs.lemmas.Cmp.{ranked}
use Rattle.std.proofs.lemmas.List.{length-map}
use Rattle.std.proofs.lemmas.List.Kept.{AllPairs-from_increasing}
use Rattle.std.proofs.lemmas.List.Sorted.{IsNonDecreasingBy-from_default}
use Rattle.std.proofs.Math.ListN.{get_or-map}
use Rattle.layers.specs.declared.folding_list.Folding.{Folding}
use Rattle.layers.specs.Foldings.{froms, tos, chains, folding, becomes}
use Rattle.tables.specs.Meaning.{contains}

any_found : (es : List Folding) (a b : ℕ) → list_any (λ (e : Folding). e.from == b || e.to == a) es ≡ (contains (froms es) b || contains (tos es) a)
any_found [] a b = refl
any_found (e ∷ es) a b = grind (arith, nat_tests, any_found es a b)

-- one search for either of two matches tells whether a folding chains
pub chains_found : (es : List Folding) (a b : ℕ) → (a ≡ b → ⊥) → list_any (λ (e : Folding). e.from == b || e.to == a) es ≡ chains es a b
chains_found es a b apart = grind (arith, nat_tests, any_found es a b)

becomes_at : (es : List Folding) (v i : ℕ) (d : Folding) → i < length es → (get_or es i d).from ≡ v → ((k : ℕ) → k < i → (get_or es k d).from ≡ v → ⊥) → becomes es v ≡ (get_or es i d).to
becomes_at [] v i d l e before = absurd (omega arith)
becomes_at (x ∷ es) v zero d l e before = grind (arith, nat_tests)
becomes_at (x ∷ es) v (suc i) d l e before = grind (arith, nat_tests, before 0, becomes_at es v i d (omega arith) e (λ k less. before (suc k) (omega arith)))

becomes_none : (es : List Folding) (v : ℕ) → ((k : ℕ) → k < length es → (get_or es k (folding 0 0)).from ≡ v → ⊥) → becomes es v ≡ v
becomes_none [] v none = refl
becomes_none (x ∷ es) v none = grind (arith, nat_tests, none 0, becomes_none es v (λ k less. none (suc k) (omega arith)))

module _ (es : List Folding) (ascending : IsStrictlyIncreasing (froms es)) (v : ℕ) where
  froms_rise : (i j : ℕ) (d : Folding) → i < j → j < length es → (get_or es i d).from < (get_or es j d).from
  froms_rise i j d l u =
      let from = λ (e : Folding). e.from in
      omega (arith, AllPairs-from_increasing (froms es) ascending i j d.from l (omega (arith, length-map es from)), get_or-map from es i d, get_or-map from es j d)

  -- the comparisons with v rise along the list, as a binary search asks
  comparisons_rise : IsNonDecreasingBy (λ (e : Folding). ordering_index (nat_cmp e.from v)) es
  comparisons_rise = IsNonDecreasingBy-from_default (λ (e : Folding). ordering_index (nat_cmp e.from v)) es (folding 0 0) (λ i j le u.
      let rise : (get_or es i (folding 0 0)).from ≤ (get_or es j (folding 0 0)).from = grind (arith, froms_rise i j (folding 0 0), λ (same : i ≡ j). ap (λ (n : ℕ). (get_or es n (folding 0 0)).from) same) in
      grind (arith, nat_tests))

  -- a binary search for v ends at its entry, or shows that there is none
  pub searched : (r : Result ℕ ℕ) → IsSearchInRange r (length es) → IsBinarySearchResult (λ (e : Folding). nat_cmp e.from v) es r → MatchResult r (λ i. (d : Folding) → becomes es v ≡ (get_or es i d).to) (λ _. becomes es v ≡ v)
  searched (Ok i) within equal =
      λ d. becomes_at es v i d within (ranked _ v _ (sym (equal d))) (λ k less same. omega (arith, froms_rise k i d less within, ranked _ v _ (sym (equal d))))
  searched (Err i) within parted =
      becomes_none es v (λ k less same.
      let low = (parted comparisons_rise).0 k (folding 0 0) (omega arith) in
      let high = (parted comparisons_rise).1 k (folding 0 0) in
      grind (arith, λ (l : k < i). ranked _ v _ (sym (low l)), λ (l : i ≤ k). ranked _ v _ (sym (high l less))))
