-- A code and its conditions.
use Rattle.std.proofs.Common.{◌≡◌, ℕ, suc, ◌+◌, ◌-◌, ◌*◌, ◌^◌, ◌<◌, ◌≤◌, Bool, true, cond, ◌&&◌, eqb, sym, refl, ap, ◌∙◌, subst, ap₂, lt_of_le_of_lt, zero-add, add-one, arith}
use lib.Bits.{bit_and, and_le_l, and_le_r}
use lib.Pow.{ones_lt}
use Rattle.std.proofs.lemmas.Bool.{eqb-true, eq-eqb, and_parts, and_from}
use Rattle.lattice.specs.Sets.{weight, has, code_of, whole, includes}
use Rattle.lattice.proofs.Bits.{bit, same_bits, spread, sum_spread, spread_more, spread_below, bit_spread, bit_of_both, bit_ones}
use Rattle.lattice.proofs.Filters.{same_tests, every_at, every_counted, if_then, then_if}

-- A condition is a bit, and a bit below place k a condition.
has_bit : (k x i : ℕ) → has k x i ≡ bit x (k - 1 - i)
unfolding has weight bit
has_bit k x i = refl

bit_has : (k x j : ℕ) → j < k → bit x j ≡ has k x (k - 1 - j)
bit_has k x j h = let e : j ≡ k - 1 - (k - 1 - j) = omega arith in ap (bit x) e ∙ sym (has_bit k x (k - 1 - j))

pub has_code_of : (k : ℕ) (test : ℕ → Bool) (i : ℕ) → i < k → has k (code_of k test) i ≡ test i
unfolding code_of
has_code_of k test i h =
    let e : 0 + (k - 1 - (k - 1 - i)) ≡ i = omega arith in
    has_bit k (code_of k test) i
    ∙ ap (λ (v : ℕ). bit v (k - 1 - i)) (sum_spread k test 0 k (omega arith))
    ∙ bit_spread test 0 k (k - 1 - i) (omega arith)
    ∙ ap test e

pub code_of_below : (k : ℕ) (test : ℕ → Bool) → code_of k test < 2 ^ k
unfolding code_of
code_of_below k test = subst (λ (v : ℕ). v < 2 ^ k) (sym (sum_spread k test 0 k (omega arith))) (spread_below test 0 k)

pub same_conditions : (k x y : ℕ) → x < 2 ^ k → y < 2 ^ k → ((i : ℕ) → i < k → has k x i ≡ has k y i) → x ≡ y
same_conditions k x y h l f = same_bits k x y h l (λ j b. bit_has k x j b ∙ f (k - 1 - j) (omega arith) ∙ sym (bit_has k y j b))

pub code_of_has : (k x : ℕ) → x < 2 ^ k → code_of k (has k x) ≡ x
code_of_has k x h = same_conditions k (code_of k (has k x)) x (code_of_below k (has k x)) h (has_code_of k (has k x))

pub code_of_more : (k : ℕ) (test : ℕ → Bool) → code_of (k + 1) test ≡ code_of k test * 2 + cond (test k) 1 0
unfolding code_of
code_of_more k test =
    let all : code_of (k + 1) test ≡ spread test 0 (suc k) = ap (λ (n : ℕ). code_of n test) (add-one k) ∙ sum_spread (suc k) test 0 (suc k) (omega arith) in
    let at : ◌≡◌ {A = ℕ} (cond (test (0 + k)) 1 0) (cond (test k) 1 0) = ap (λ (v : ℕ). cond (test v) 1 0) (zero-add k) in
    omega (arith, all, spread_more test 0 k, sum_spread k test 0 k (omega arith))

pub whole_below : (k : ℕ) → whole k < 2 ^ k
whole_below k = ones_lt k

pub has_whole : (k i : ℕ) → i < k → has k (whole k) i ≡ true
has_whole k i h = has_bit k (whole k) i ∙ bit_ones k (k - 1 - i) (omega arith)

pub has_meet : (k x y i : ℕ) → has k (bit_and x y) i ≡ has k x i && has k y i
has_meet k x y i =
    has_bit k (bit_and x y) i ∙ bit_of_both x y (k - 1 - i) ∙ ap₂ (λ (a b : Bool). a && b) (sym (has_bit k x i)) (sym (has_bit k y i))

pub includes_at : (k x y i : ℕ) → includes k x y ≡ true → i < k → has k x i ≡ true → has k y i ≡ true
unfolding includes
includes_at k x y i e h = if_then (has k x i) (has k y i) (every_at (λ i. cond (has k x i) (has k y i) true) 0 k i e (omega arith) (omega arith))

pub includes_of : (k x y : ℕ) → ((i : ℕ) → i < k → has k x i ≡ true → has k y i ≡ true) → includes k x y ≡ true
unfolding includes
includes_of k x y f = every_counted (λ i. cond (has k x i) (has k y i) true) 0 k (λ i l h. then_if (has k x i) (has k y i) (f i (omega arith)))

-- The same by bits.
pub includes_bit : (k x y j : ℕ) → includes k x y ≡ true → j < k → bit x j ≡ true → bit y j ≡ true
includes_bit k x y j e h b = bit_has k y j h ∙ includes_at k x y (k - 1 - j) e (omega arith) (sym (bit_has k x j h) ∙ b)

pub includes_of_bits : (k x y : ℕ) → ((j : ℕ) → j < k → bit x j ≡ true → bit y j ≡ true) → includes k x y ≡ true
includes_of_bits k x y f = includes_of k x y (λ i h b. has_bit k y i ∙ f (k - 1 - i) (omega arith) (sym (has_bit k x i) ∙ b))

pub includes_trans : (k x y z : ℕ) → includes k x y ≡ true → includes k y z ≡ true → includes k x z ≡ true
includes_trans k x y z e f = includes_of k x z (λ i h b. includes_at k y z i f h (includes_at k x y i e h b))

-- A meet is included in its parts, and what is included in both parts is included in the meet.
pub meet_left : (k x y : ℕ) → includes k (bit_and x y) x ≡ true
meet_left k x y = includes_of k (bit_and x y) x (λ i h b. (and_parts (has k x i) (has k y i) (sym (has_meet k x y i) ∙ b)).0)

pub meet_right : (k x y : ℕ) → includes k (bit_and x y) y ≡ true
meet_right k x y = includes_of k (bit_and x y) y (λ i h b. (and_parts (has k x i) (has k y i) (sym (has_meet k x y i) ∙ b)).1)

pub meet_of : (k z x y : ℕ) → includes k z x ≡ true → includes k z y ≡ true → includes k z (bit_and x y) ≡ true
meet_of k z x y e f =
    includes_of k z (bit_and x y) (λ i h b. has_meet k x y i ∙ and_from (has k x i) (has k y i) (includes_at k z x i e h b) (includes_at k z y i f h b))

-- What x has beyond the k conditions is none of them.
pub includes_inside : (k x : ℕ) → includes k x (bit_and x (whole k)) ≡ true
includes_inside k x = meet_of k x x (whole k) (includes_of k x x (λ i h b. b)) (includes_of k x (whole k) (λ i h b. has_whole k i h))

pub inside_below : (k x : ℕ) → bit_and x (whole k) < 2 ^ k
inside_below k x = lt_of_le_of_lt (and_le_r x (whole k)) (whole_below k)

and_of_included : (k x y : ℕ) → x < 2 ^ k → includes k x y ≡ true → bit_and x y ≡ x
and_of_included k x y h e =
    same_conditions k (bit_and x y) x (lt_of_le_of_lt (and_le_l x y) h) h
    (λ i l. same_tests (has k (bit_and x y) i) (has k x i) (includes_at k (bit_and x y) x i (meet_left k x y) l) (λ b. has_meet k x y i ∙ and_from (has k x i) (has k y i) b (includes_at k x y i e l b)))

included_of_and : (k x y : ℕ) → bit_and x y ≡ x → includes k x y ≡ true
included_of_and k x y e = subst (λ (v : ℕ). includes k v y ≡ true) e (meet_right k x y)

pub includes_and : (k x y : ℕ) → x < 2 ^ k → includes k x y ≡ eqb (bit_and x y) x
includes_and k x y h =
    same_tests (includes k x y) (eqb (bit_and x y) x) (λ e. eq-eqb (bit_and x y) x (and_of_included k x y h e)) (λ e. included_of_and k x y (eqb-true (bit_and x y) x e))

-- A code that includes another is no smaller.
pub includes_le : (k x y : ℕ) → x < 2 ^ k → includes k x y ≡ true → x ≤ y
includes_le k x y h e = omega (arith, and_le_r x y, and_of_included k x y h e)
