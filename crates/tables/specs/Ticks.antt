-- Lemmas on the values that a word ticks. The lemmas stand here and not in proofs/: src/ cites them, and can cite nothing of its own crate's proofs/.
use Rattle.std.specs.Prelude.{◌≡◌, ℕ, zero, suc, ◌+◌, ◌/◌, ◌%◌, ◌^◌, ◌<◌, ◌≤◌, Bool, true, false, cond, not, List, [], ◌∷◌, length, filter, ◌==◌, refl}
use Rattle.std.proofs.Common.{sym, ap, subst, ◌∙◌, arith, shr-shr}
use Rattle.std.specs.Int.Count.{ones, ones_step}
use Rattle.std.specs.List.{range_with_len, AllByRecursion}
use Rattle.std.proofs.lemmas.Nat.{shr_below}
use Rattle.std.proofs.lemmas.List.FromFn.{length-range_with_len}
use Rattle.std.proofs.ByRecursion.{all_kept_by}
use Rattle.std.proofs.lemmas.List.Filters.{length-filter_both}
use Rattle.std.proofs.lemmas.Bool.{eqb-true, eqb-false}
use Rattle.tables.specs.TickSheet.{is_ticked, ticked}

pub ticked_zero : ticked 0 ≡ []
unfolding ticked
ticked_zero = refl

-- as many values are ticked as the word has bits that are 1
count_step : (x : ℕ) (b : Bool) (v : ℕ) (vs : List ℕ) → b ≡ (x % 2 == 1) → length (cond b (v ∷ vs) vs) ≡ x % 2 + length vs
count_step x true v vs e = omega (arith, eqb-true (x % 2) 1 (sym e))
count_step x false v vs e =
    let h : x % 2 ≡ 1 → ⊥ = eqb-false (x % 2) 1 (sym e) in
    omega arith

count_from : (w k v : ℕ) → length (filter (is_ticked w) (range_with_len v k)) + ones (w / 2 ^ (v + k)) ≡ ones (w / 2 ^ v)
count_from w zero v =
    let q : v + 0 ≡ v = omega arith in
    let e = ap (λ (j : ℕ). ones (w / 2 ^ j)) q in
    omega arith
count_from w (suc k) v =
    let x : ℕ = w / 2 ^ v in
    let q : v + 1 + k ≡ v + suc k = omega arith in
    let here = count_step x (is_ticked w v) v (filter (is_ticked w) (range_with_len (v + 1) k)) refl in
    let rest = count_from w k (v + 1) in
    let far = ap (λ (j : ℕ). ones (w / 2 ^ j)) q in
    let half = ones_step x ∙ ap (λ (y : ℕ). x % 2 + ones y) (shr-shr w v 1) in
    omega arith

length_kept : (w k : ℕ) → w < 2 ^ k → ones w ≡ length (filter (is_ticked w) (range_with_len 0 k))
unfolding ones
length_kept w k l =
    let q : k ≡ 0 + k = omega arith in
    let P : ℕ → Type 0 = λ j. w < 2 ^ j in
    let high : w / 2 ^ (0 + k) ≡ 0 = ap (λ (j : ℕ). w / 2 ^ j) (sym q) ∙ (let h = shr_below w 0 k (subst P q l) in omega arith) in
    let low : w / 2 ^ 0 ≡ w = omega arith in
    sym (ap ones low) ∙ sym (count_from w k 0) ∙ (let z = ap ones high in omega arith)

pub length_ticked : (w : ℕ) → w < 2 ^ 64 → ones w ≡ length (ticked w)
unfolding ticked
length_ticked w l = length_kept w 64 l

-- how many they are, and how large
kept_at_most : (q : ℕ → Bool) (k most : ℕ) → k ≤ most → length (filter q (range_with_len 0 k)) ≤ most
kept_at_most q k most l =
    omega (arith, length-filter_both q (λ v. not (q v)) (λ _. refl) (range_with_len 0 k), length-range_with_len 0 k)

pub ticked_short : (w : ℕ) → length (ticked w) ≤ 65536
unfolding ticked
ticked_short w = kept_at_most (is_ticked w) 64 65536 (omega arith)

counting_small : (k v : ℕ) → v + k ≤ 64 → AllByRecursion (λ x. x < 2 ^ 32) (range_with_len v k)
counting_small zero v l = tt
counting_small (suc k) v l = (omega arith, counting_small k (v + 1) (omega arith))

pub ticked_small : (w : ℕ) → AllByRecursion (λ v. v < 2 ^ 32) (ticked w)
unfolding ticked
ticked_small w = all_kept_by (is_ticked w) (λ v. v < 2 ^ 32) (range_with_len 0 64) (counting_small 64 0 (omega arith))
