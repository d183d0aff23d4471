-- The bits of a number, and the number that has given bits.
use Rattle.std.proofs.Common.{◌≡◌, ℕ, zero, suc, ◌+◌, ◌-◌, ◌*◌, ◌/◌, ◌%◌, ◌^◌, ◌<◌, ◌≤◌, Bool, true, false, cond, ◌&&◌, eqb, sum_by, sym, refl, ap, ◌∙◌, ap₂, ⊎_elim, lt_of_lt_of_le, add-zero, mod-eq_of_lt, mul_assoc, one-mul, pow-suc, zero-mul, one-add, arith, pow_mono, shr-shr}
use native.Mathlib.Nat.{div-eq_of_lt}
use lib.Arith.{digits_lt}
use lib.Pow.{pow-lt, shl-shr, field, mod-mod-pow, low, high}
use lib.Bits.{bit_and, and_shr, and_mod, and_mask}
use Rattle.std.specs.List.{range_with_len}
use Rattle.std.proofs.lemmas.List.Sums.{sum_by-cons}
use Rattle.std.proofs.lemmas.Bool.{eqb-true, eqb-false, eq-eqb, ne_eqb, cases_lt, cases_Bool, and_parts}
use Rattle.lattice.specs.Sets.{weight}

-- The bit of x at place j, from the low end.
unfoldable pub bit : ℕ → ℕ → Bool
bit x j = eqb (x / 2 ^ j % 2) 1

pub bit_one : (x j : ℕ) → bit x j ≡ true → x / 2 ^ j % 2 ≡ 1
unfolding bit
bit_one x j e = eqb-true (x / 2 ^ j % 2) 1 e

pub bit_zero : (x j : ℕ) → bit x j ≡ false → x / 2 ^ j % 2 ≡ 0
unfolding bit
bit_zero x j e = let n = eqb-false (x / 2 ^ j % 2) 1 e in omega arith

pub one_bit : (x j : ℕ) → x / 2 ^ j % 2 ≡ 1 → bit x j ≡ true
unfolding bit
one_bit x j e = eq-eqb (x / 2 ^ j % 2) 1 e

pub zero_bit : (x j : ℕ) → x / 2 ^ j % 2 ≡ 0 → bit x j ≡ false
unfolding bit
zero_bit x j e = ne_eqb (x / 2 ^ j % 2) 1 (λ q. omega arith)

-- The bits of the high part.
pub bit_high : (x d j : ℕ) → bit (x / 2 ^ d) j ≡ bit x (d + j)
unfolding bit
bit_high x d j = ap (λ (v : ℕ). eqb (v % 2) 1) (shr-shr x d j)

pub bit_half : (x j : ℕ) → bit (x / 2) j ≡ bit x (suc j)
bit_half x j = bit_high x 1 j ∙ ap (bit x) (one-add j)

-- A number has no bits past its width.
pub bit_past : (k x j : ℕ) → x < 2 ^ k → k ≤ j → bit x j ≡ false
unfolding bit
bit_past k x j h l = ap (λ (v : ℕ). eqb (v % 2) 1) (div-eq_of_lt (lt_of_lt_of_le h (pow_mono l)))

pub half_below : (k x : ℕ) → x < 2 ^ suc k → x / 2 < 2 ^ k
half_below k x h = omega (arith, pow-suc 2 k)

-- Two numbers with the same bits are the same.
pub same_bits : (k x y : ℕ) → x < 2 ^ k → y < 2 ^ k → ((j : ℕ) → j < k → bit x j ≡ bit y j) → x ≡ y
unfolding bit
same_bits zero x y h l f = omega arith
same_bits (suc k) x y h l f =
    let halves : x / 2 ≡ y / 2 = same_bits k (x / 2) (y / 2) (half_below k x h) (half_below k y l) (λ j b. bit_half x j ∙ f (suc j) (omega arith) ∙ sym (bit_half y j)) in
    let ends : x % 2 ≡ y % 2 =
    ⊎_elim (λ e. let p = bit_one y 0 (sym (f 0 (omega arith)) ∙ e) in let q = bit_one x 0 e in omega arith)
    (λ e. let p = bit_zero y 0 (sym (f 0 (omega arith)) ∙ e) in let q = bit_zero x 0 e in omega arith) (cases_Bool (bit x 0))
    in
    omega arith

-- A bit of the low part.
pub bit_low : (b n r j : ℕ) → r < 2 ^ n → j < n → bit (b * 2 ^ n + r) j ≡ bit r j
unfolding bit
bit_low b n r j h l =
    let m = b * 2 ^ n + r in
    let d : n - (1 + j) + (1 + j) ≡ n = omega arith in
    let same : m % 2 ^ (1 + j) ≡ r % 2 ^ (1 + j) =
    sym (mod-mod-pow m (n - (1 + j)) (1 + j)) ∙ ap (λ (v : ℕ). m % 2 ^ v % 2 ^ (1 + j)) d ∙ ap (λ (v : ℕ). v % 2 ^ (1 + j)) (low b n h)
    in
    ap (λ (v : ℕ). eqb v 1) (sym (field m 1 j) ∙ ap (λ (v : ℕ). v / 2 ^ j) same ∙ field r 1 j)

-- The n bits whose highest is what t says of a, and the next of a + 1.
abbrev pub spread : (ℕ → Bool) → ℕ → ℕ → ℕ
spread t a zero = 0
spread t a (suc n) = cond (t a) 1 0 * 2 ^ n + spread t (a + 1) n

cond_times : (b : Bool) (w : ℕ) → cond b w 0 ≡ cond b 1 0 * w
cond_times true w = sym (one-mul w)
cond_times false w = sym (zero-mul w)

cond_small : (b : Bool) → cond b 1 0 < 2
cond_small true = omega arith
cond_small false = omega arith

cond_bit : (b : Bool) → eqb (cond b 1 0 % 2) 1 ≡ b
cond_bit true = refl
cond_bit false = refl

pub sum_spread : (k : ℕ) (t : ℕ → Bool) (a n : ℕ) → a + n ≡ k → sum_by (λ i. cond (t i) (weight k i) 0) (range_with_len a n) ≡ spread t a n
unfolding weight
sum_spread k t a zero e = refl
sum_spread k t a (suc n) e =
    let w : k - 1 - a ≡ n = omega arith in
    sum_by-cons (λ i. cond (t i) (2 ^ (k - 1 - i)) 0) a (range_with_len (a + 1) n)
    ∙ ap₂ (λ (x y : ℕ). x + y) (cond_times (t a) (2 ^ (k - 1 - a)) ∙ ap (λ (v : ℕ). cond (t a) 1 0 * 2 ^ v) w) (sum_spread k t (a + 1) n (omega arith))

pub spread_below : (t : ℕ → Bool) (a n : ℕ) → spread t a n < 2 ^ n
spread_below t a zero = omega arith
spread_below t a (suc n) = omega (arith, digits_lt (cond_small (t a)) (spread_below t (a + 1) n), pow-suc 2 n)

pub bit_spread : (t : ℕ → Bool) (a n j : ℕ) → j < n → bit (spread t a n) j ≡ t (a + (n - 1 - j))
unfolding bit
bit_spread t a zero j h = absurd (omega arith)
bit_spread t a (suc n) j h =
    let below = spread_below t (a + 1) n in
    ⊎_elim
    (λ l.
    let at : a + 1 + (n - 1 - j) ≡ a + (suc n - 1 - j) = omega arith in
    bit_low (cond (t a) 1 0) n (spread t (a + 1) n) j below l ∙ bit_spread t (a + 1) n j l ∙ ap t at)
    (λ l.
    let top : j ≡ n = omega arith in
    let at : a ≡ a + (suc n - 1 - j) = omega arith in
    ap (λ (v : ℕ). eqb ((cond (t a) 1 0 * 2 ^ n + spread t (a + 1) n) / 2 ^ v % 2) 1) top
    ∙ ap (λ (v : ℕ). eqb (v % 2) 1) (high (cond (t a) 1 0) n below)
    ∙ cond_bit (t a)
    ∙ ap t at)
    (cases_lt j n)

-- One more bit, at the low end.
pub spread_more : (t : ℕ → Bool) (a n : ℕ) → spread t a (suc n) ≡ spread t a n * 2 + cond (t (a + n)) 1 0
spread_more t a zero = ap (λ (v : ℕ). cond (t v) 1 0 * 2 ^ 0 + 0) (sym (add-zero a)) ∙ omega arith
spread_more t a (suc n) =
    let b : ℕ = cond (t a) 1 0 in
    let e : a + 1 + n ≡ a + suc n = omega arith in
    let last : ◌≡◌ {A = ℕ} (cond (t (a + 1 + n)) 1 0) (cond (t (a + suc n)) 1 0) = ap (λ (v : ℕ). cond (t v) 1 0) e in
    let top : b * 2 ^ suc n ≡ b * 2 ^ n * 2 = ap (λ (v : ℕ). b * v) (pow-suc 2 n) ∙ sym (mul_assoc b (2 ^ n) 2) in
    omega (arith, spread_more t (a + 1) n)

-- The bits of an intersection.
pub bit_of_both : (x y j : ℕ) → bit (bit_and x y) j ≡ bit x j && bit y j
unfolding bit
bit_of_both x y j =
    ap (λ (v : ℕ). eqb v 1) (ap (λ (v : ℕ). v % 2) (and_shr x y j) ∙ and_mod (x / 2 ^ j) (y / 2 ^ j) 1)
    ∙ small (x / 2 ^ j % 2) (y / 2 ^ j % 2) (omega arith) (omega arith)
  where
    small : (a b : ℕ) → a < 2 → b < 2 → eqb (bit_and a b) 1 ≡ eqb a 1 && eqb b 1
    small zero b h l = refl
    small (suc zero) zero h l = refl
    small (suc zero) (suc zero) h l = refl
    small (suc zero) (suc (suc b)) h l = absurd (omega arith)
    small (suc (suc a)) b h l = absurd (omega arith)

pub bit_power : (j : ℕ) → bit (2 ^ j) j ≡ true
bit_power j = one_bit (2 ^ j) j (ap (λ (v : ℕ). v % 2) (ap (λ (v : ℕ). v / 2 ^ j) (sym (one-mul (2 ^ j))) ∙ shl-shr 1 j))

-- All ones below place k.
pub bit_ones : (k j : ℕ) → j < k → bit (2 ^ k - 1) j ≡ true
bit_ones k j h =
    let e : bit_and (2 ^ j) (2 ^ k - 1) ≡ 2 ^ j = and_mask (2 ^ j) k ∙ mod-eq_of_lt (pow-lt h) in
    (and_parts (bit (2 ^ j) j) (bit (2 ^ k - 1) j) (sym (bit_of_both (2 ^ j) (2 ^ k - 1) j) ∙ ap (λ (v : ℕ). bit v j) e ∙ bit_power j)).1
