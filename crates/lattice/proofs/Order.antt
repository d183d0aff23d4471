-- The order of codes, by the highest place where they differ.
use Rattle.std.proofs.Common.{◌≡◌, ℕ, zero, suc, ◌+◌, ◌-◌, ◌*◌, ◌/◌, ◌%◌, ◌^◌, ◌<◌, ◌≤◌, true, false, sym, ap, ◌∙◌, subst, ⊎_elim, le_of_eq, lt_of_lt_of_le, mod-eq_of_lt, mul_assoc, add-mul, add_comm, one-mul, arith, pow_pos, pow_mono, pow-add, shr-shr, shr_lt}
use lib.Arith.{digits_lt}
use lib.Pow.{pow-lt, shr_mono, high}
use Rattle.std.proofs.lemmas.Bool.{cases_eq, cases_lt}
use Rattle.lattice.specs.Closed.{raised}
use Rattle.lattice.proofs.Bits.{bit, bit_one, bit_zero, one_bit, zero_bit, bit_high, bit_half, bit_past, bit_low, bit_power, half_below}

-- x and y agree above place j, where y has a bit and x has not.
pub record Parted (x y j : ℕ) : Type 0 where
  pub agree : x / 2 ^ (j + 1) ≡ y / 2 ^ (j + 1)
  pub lacks : bit x j ≡ false
  pub gains : bit y j ≡ true

halves_up : (x j : ℕ) → x / 2 / 2 ^ (j + 1) ≡ x / 2 ^ (suc j + 1)
halves_up x j = let e : 1 + (j + 1) ≡ suc j + 1 = omega arith in shr-shr x 1 (j + 1) ∙ ap (λ (v : ℕ). x / 2 ^ v) e

-- Of two codes the smaller lacks the condition of most weight in which they differ.
pub parted : (k x y : ℕ) → x < y → y < 2 ^ k → (j : ℕ) × (j < k) × Parted x y j
parted zero x y h l = absurd (omega arith)
parted (suc k) x y h l =
    ⊎_elim
    (λ e. (0, omega arith, record { agree = e; lacks = zero_bit x 0 (omega arith); gains = one_bit y 0 (omega arith) }))
    (λ n.
    let r = parted k (x / 2) (y / 2) (omega arith) (half_below k y l) in (
      suc r.0,
      omega arith,
      record {
        agree = sym (halves_up x r.0) ∙ r.2.agree ∙ halves_up y r.0;
        lacks = sym (bit_half x r.0) ∙ r.2.lacks;
        gains = sym (bit_half y r.0) ∙ r.2.gains;
      },
    ))
    (cases_eq (x / 2) (y / 2))

-- And the code that lacks it is the smaller.
pub parted_less : (x y j : ℕ) → Parted x y j → x < y
parted_less x y j p =
    ⊎_elim (λ h. h)
    (λ h.
    let m : y / 2 ^ j ≤ x / 2 ^ j = shr_mono j h in
    let e : x / 2 ^ j / 2 ≡ y / 2 ^ j / 2 = shr-shr x j 1 ∙ p.agree ∙ sym (shr-shr y j 1) in
    absurd (omega (arith, bit_zero x j p.lacks, bit_one y j p.gains)))
    (cases_lt x y)

-- What agrees above j agrees above every higher place.
pub agree_higher : (x y j i : ℕ) → x / 2 ^ (j + 1) ≡ y / 2 ^ (j + 1) → j ≤ i → x / 2 ^ (i + 1) ≡ y / 2 ^ (i + 1)
agree_higher x y j i e h =
    let d : j + 1 + (i - j) ≡ i + 1 = omega arith in
    let up : (z : ℕ) → z / 2 ^ (j + 1) / 2 ^ (i - j) ≡ z / 2 ^ (i + 1) = λ z. shr-shr z (j + 1) (i - j) ∙ ap (λ (v : ℕ). z / 2 ^ v) d in
    sym (up x) ∙ ap (λ (v : ℕ). v / 2 ^ (i - j)) e ∙ up y

pub agree_bit : (x y j i : ℕ) → x / 2 ^ (j + 1) ≡ y / 2 ^ (j + 1) → j < i → bit x i ≡ bit y i
agree_bit x y j i e h =
    let d : j + 1 + (i - (j + 1)) ≡ i = omega arith in
    let up : (z : ℕ) → bit (z / 2 ^ (j + 1)) (i - (j + 1)) ≡ bit z i = λ z. bit_high z (j + 1) (i - (j + 1)) ∙ ap (bit z) d in
    sym (up x) ∙ ap (λ (v : ℕ). bit v (i - (j + 1))) e ∙ up y

-- Below its one bit a power of two has none.
bit_power_low : (j i : ℕ) → i < j → bit (2 ^ j) i ≡ false
bit_power_low j i h =
    let e : 2 ^ j ≡ 1 * 2 ^ j + 0 = omega arith in
    ap (λ (v : ℕ). bit v i) e ∙ bit_low 1 j 0 i (pow_pos j) h ∙ bit_past 0 0 i (omega arith) (omega arith)

power_next : (j : ℕ) → 2 ^ j < 2 ^ (j + 1)
power_next j = let h : j < j + 1 = omega arith in pow-lt h

pub raised_agrees : (x j : ℕ) → raised x j / 2 ^ (j + 1) ≡ x / 2 ^ (j + 1)
unfolding raised
raised_agrees x j = high (x / 2 ^ (j + 1)) (j + 1) (power_next j)

pub raised_here : (x j : ℕ) → bit (raised x j) j ≡ true
unfolding raised
raised_here x j = bit_low (x / 2 ^ (j + 1)) (j + 1) (2 ^ j) j (power_next j) (omega arith) ∙ bit_power j

pub raised_lower : (x j i : ℕ) → i < j → bit (raised x j) i ≡ false
unfolding raised
raised_lower x j i h = bit_low (x / 2 ^ (j + 1)) (j + 1) (2 ^ j) i (power_next j) (omega arith) ∙ bit_power_low j i h

pub raised_below : (k x j : ℕ) → x < 2 ^ k → j < k → raised x j < 2 ^ k
unfolding raised
raised_below k x j h l =
    let e : k - (j + 1) + (j + 1) ≡ k = omega arith in
    let q : x / 2 ^ (j + 1) < 2 ^ (k - (j + 1)) = shr_lt (k - (j + 1)) (j + 1) (subst (λ (v : ℕ). x < 2 ^ v) (sym e) h) in
    lt_of_lt_of_le (digits_lt q (power_next j)) (le_of_eq (sym (pow-add 2 (k - (j + 1)) (j + 1)) ∙ ap (λ (v : ℕ). 2 ^ v) e))

-- As code computes it, with no shift past the width.
raised_shifted : (x j : ℕ) → bit x j ≡ false → raised x j ≡ (x / 2 ^ j + 1) * 2 ^ j
unfolding raised
raised_shifted x j e =
    let h : x / 2 ^ (j + 1) * 2 + 1 ≡ x / 2 ^ j + 1 = omega (arith, bit_zero x j e, shr-shr x j 1) in
    let q = x / 2 ^ (j + 1) in
    let w : q * 2 ^ (j + 1) ≡ q * 2 * 2 ^ j = ap (λ (v : ℕ). q * v) (ap (λ (v : ℕ). 2 ^ v) (add_comm j 1) ∙ pow-add 2 1 j) ∙ sym (mul_assoc q 2 (2 ^ j)) in
    ap (λ (v : ℕ). v + 2 ^ j) w ∙ sym (ap (λ (v : ℕ). v * 2 ^ j) (sym h) ∙ add-mul (q * 2) 1 (2 ^ j) ∙ ap (λ (v : ℕ). q * 2 * 2 ^ j + v) (one-mul (2 ^ j)))

-- Shifted in a word of w bits nothing is lost.
pub raised_in_word : (w k x j : ℕ) → k ≤ w → x < 2 ^ k → j < k → bit x j ≡ false → ((x / 2 ^ j + 1) * 2 ^ j) % 2 ^ w ≡ raised x j
raised_in_word w k x j h b l e =
    ap (λ (v : ℕ). v % 2 ^ w) (sym (raised_shifted x j e)) ∙ mod-eq_of_lt (lt_of_lt_of_le (raised_below k x j b l) (pow_mono h))
