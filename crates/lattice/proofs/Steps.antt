-- The candidates, one after another, by steps from one closed code to the next.
use Rattle.std.proofs.Common.{◌≡◌, ℕ, zero, suc, ◌^◌, ◌<◌, ◌≤◌, Bool, true, false, not, ◌&&◌, eqb, List, length, get_or, filter, sym, refl, ap, ◌∙◌, ap₂, arith, pow_pos}
use mathlib.Core.Path.{fun_ext}
use lib.Bits.{bit_and}
use Rattle.std.proofs.lemmas.Bool.{both_ways, not-true, not_from_false, and_parts, and_from, eqb-false, ne_eqb}
use Rattle.lattice.specs.Candidates.{is_candidate, candidates, last_of, Steps}
use Rattle.lattice.specs.Closed.{is_closed, next_closed}
use Rattle.lattice.specs.Least.{least_above, LeastAbove, NoneAbove}
use Rattle.lattice.specs.Sets.{range, empty}
use Rattle.lattice.specs.Widening.{including, SameMembers}
use Rattle.lattice.proofs.Ascending.{kept_ascends, get_or_within, last_below_next, least_is_next, none_is_end}
use Rattle.lattice.proofs.Closures.{closed_whole, meet_closed, including_some, widening_members, including_members}
use Rattle.lattice.proofs.Conditions.{meet_left}
use Rattle.lattice.proofs.Raising.{next_is_least, none_above}

-- What a passed test of a candidate says.
record Candidate (k : ℕ) (codes : List ℕ) (x : ℕ) : Type 0 where
  some : x ≡ 0 → ⊥
  closed : is_closed k codes x ≡ true
  included : empty (including k x codes) ≡ false

candidate_says : (k : ℕ) (codes : List ℕ) (x : ℕ) → is_candidate k codes x ≡ true → Candidate k codes x
unfolding is_candidate
candidate_says k codes x e =
    let all = and_parts (not (eqb x 0) && is_closed k codes x) (not (empty (including k x codes))) e in
    let both = and_parts (not (eqb x 0)) (is_closed k codes x) all.0 in
    record { some = eqb-false x 0 (not-true (eqb x 0) both.0); closed = both.1; included = not-true (empty (including k x codes)) all.1 }

candidate_passes : (k : ℕ) (codes : List ℕ) (x : ℕ) → Candidate k codes x → is_candidate k codes x ≡ true
unfolding is_candidate
candidate_passes k codes x c =
    and_from (not (eqb x 0) && is_closed k codes x) (not (empty (including k x codes)))
    (and_from (not (eqb x 0)) (is_closed k codes x) (not_from_false (eqb x 0) (ne_eqb x 0 c.some)) c.closed)
    (not_from_false (empty (including k x codes)) c.included)

zero_fails : (k : ℕ) (codes : List ℕ) → is_candidate k codes 0 ≡ false
unfolding is_candidate
zero_fails k codes = refl

pub meet_candidate : (k : ℕ) (codes : List ℕ) (x y : ℕ) → is_candidate k codes x ≡ true → is_candidate k codes y ≡ true → (bit_and x y ≡ 0 → ⊥) → is_candidate k codes (bit_and x y) ≡ true
meet_candidate k codes x y e f n =
    let c = candidate_says k codes x e in
    let d = candidate_says k codes y f in
    candidate_passes k codes (bit_and x y)
    (record { some = n; closed = meet_closed k codes x y c.closed d.closed; included = including_some k codes (bit_and x y) x (meet_left k x y) c.included })

-- The next closed code, where some code includes it, is the next candidate.
next_candidate : (k : ℕ) (codes : List ℕ) (x z : ℕ) → LeastAbove (is_closed k codes) (2 ^ k) x z → empty (including k z codes) ≡ false → LeastAbove (is_candidate k codes) (2 ^ k) x z
next_candidate k codes x z next e =
    record {
      passes = candidate_passes k codes z (record { some = λ q. omega (arith, next.greater); closed = next.passes; included = e });
      within = next.within;
      greater = next.greater;
      least = λ y b p l. next.least y b (candidate_says k codes y p).closed l;
    }

-- Where none includes it, it is the whole set, and there is no further candidate.
next_whole : (k : ℕ) (codes : List ℕ) (x z : ℕ) → LeastAbove (is_closed k codes) (2 ^ k) x z → empty (including k z codes) ≡ true → NoneAbove (is_candidate k codes) (2 ^ k) x
unfolding NoneAbove
next_whole k codes x z next e y b p l =
    let c = candidate_says k codes y p in
    let top = closed_whole k codes z next.passes e in
    let up = next.least y b c.closed l in
    let same : z ≡ y = omega arith in
    both_ways (empty (including k y codes)) c.included (ap (λ (v : ℕ). empty (including k v codes)) (sym same) ∙ e)

no_candidate : (k : ℕ) (codes : List ℕ) (x : ℕ) → NoneAbove (is_closed k codes) (2 ^ k) x → NoneAbove (is_candidate k codes) (2 ^ k) x
unfolding NoneAbove
no_candidate k codes x none y b p l = none y b (candidate_says k codes y p).closed l

pub steps : (k : ℕ) (codes : List ℕ) (n : ℕ) → n ≤ length (candidates k codes) → Steps k codes n
unfolding candidates
steps k codes n h =
    let x = last_of (candidates k codes) n in
    record {
      one_more = λ z e f. least_is_next (is_candidate k codes) (2 ^ k) n z (zero_fails k codes) h (next_candidate k codes x z (next_is_least k codes x z e) f);
      none_includes = λ z e f. none_is_end (is_candidate k codes) (2 ^ k) n (zero_fails k codes) h (next_whole k codes x z (next_is_least k codes x z e) f);
      none_left = λ e. none_is_end (is_candidate k codes) (2 ^ k) n (zero_fails k codes) h (no_candidate k codes x (none_above k codes x e));
    }

pub candidates_ascend : (k : ℕ) (codes : List ℕ) (i j : ℕ) → i < j → j < length (candidates k codes) → get_or (candidates k codes) i 0 < get_or (candidates k codes) j 0
unfolding candidates
candidates_ascend k codes i j h l = kept_ascends (is_candidate k codes) 0 (2 ^ k) i j h l

-- The last of the first n candidates is a code of k conditions.
last_below : (k : ℕ) (codes : List ℕ) (n : ℕ) → n ≤ length (candidates k codes) → last_of (candidates k codes) n < 2 ^ k
unfolding candidates
last_below k codes zero h = pow_pos k
last_below k codes (suc n) h = get_or_within (is_candidate k codes) (2 ^ k) n (omega arith)

-- The candidate at a place is greater than its place.
place_below : (k : ℕ) (codes : List ℕ) (n : ℕ) → n ≤ length (candidates k codes) → n ≤ last_of (candidates k codes) n
unfolding candidates
place_below k codes zero h = omega arith
place_below k codes (suc n) h =
    let before = place_below k codes n (omega arith) in
    let up = last_below_next (is_candidate k codes) (2 ^ k) n (zero_fails k codes) (omega arith) in
    omega arith

pub candidates_fewer : (k : ℕ) (codes : List ℕ) → length (candidates k codes) < 2 ^ k
candidates_fewer k codes =
    let n = length (candidates k codes) in
    let low = place_below k codes n (omega arith) in
    let high = last_below k codes n (omega arith) in
    omega arith

-- Lists with the same members have the same closed codes and the same candidates.
closed_members : (k : ℕ) (xs ys : List ℕ) → SameMembers xs ys → is_closed k xs ≡ is_closed k ys
unfolding is_closed
closed_members k xs ys same = fun_ext (λ x. ap (λ (v : ℕ). eqb v x) (widening_members k xs ys same x))

pub next_members : (k : ℕ) (xs ys : List ℕ) → SameMembers xs ys → (x : ℕ) → next_closed k xs x ≡ next_closed k ys x
unfolding next_closed
next_members k xs ys same x = ap (λ (test : ℕ → Bool). least_above test (2 ^ k) x) (closed_members k xs ys same)

candidate_members : (k : ℕ) (xs ys : List ℕ) → SameMembers xs ys → is_candidate k xs ≡ is_candidate k ys
unfolding is_candidate
candidate_members k xs ys same =
    fun_ext
    (λ x. ap₂ (λ (closed : ℕ → Bool) (none : Bool). not (eqb x 0) && closed x && not none) (closed_members k xs ys same) (including_members k xs ys same x))

pub candidates_members : (k : ℕ) (xs ys : List ℕ) → SameMembers xs ys → candidates k xs ≡ candidates k ys
unfolding candidates
candidates_members k xs ys same = ap (λ (test : ℕ → Bool). filter test (range (2 ^ k))) (candidate_members k xs ys same)
