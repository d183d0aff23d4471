-- The first accepted trial, from the place of least weight up, is the next closed code.
use Rattle.std.proofs.Common.{◌≡◌, ℕ, ◌+◌, ◌/◌, ◌^◌, ◌<◌, ◌≤◌, true, List, Some, None, sym, ap, ◌∙◌, subst, ⊎_elim, arith}
use lib.Pow.{shr_mono}
use Rattle.std.proofs.lemmas.Bool.{false≢true, cases_order}
use Rattle.lattice.specs.Closed.{is_closed, next_closed, raised, trial, Accepted, FirstAccepted}
use Rattle.lattice.specs.Least.{LeastAbove, NoneAbove}
use Rattle.lattice.specs.Sets.{includes}
use Rattle.lattice.specs.Widening.{widening}
use Rattle.lattice.proofs.Ascending.{least_found, none_found, found_least, found_none}
use Rattle.lattice.proofs.Bits.{bit, bit_zero, zero_bit}
use Rattle.lattice.proofs.Closures.{widening_extends, widening_closed, widening_le, widening_below}
use Rattle.lattice.proofs.Conditions.{includes_bit, includes_of_bits, includes_le}
use Rattle.lattice.proofs.Order.{Parted, parted, parted_less, agree_higher, agree_bit, raised_agrees, raised_here, raised_lower, raised_below}

-- What agrees with x above place j and has the bit there includes x raised at j.
includes_raised : (k x y j : ℕ) → Parted x y j → includes k (raised x j) y ≡ true
includes_raised k x y j p =
    includes_of_bits k (raised x j) y
    (λ i h b.
    ⊎_elim (λ e. ap (bit y) e ∙ p.gains)
    (⊎_elim (λ l. absurd (false≢true (sym (raised_lower x j i l) ∙ b)))
    (λ l. sym (agree_bit (raised x j) y j i (raised_agrees x j ∙ p.agree) l) ∙ b))
    (cases_order i j))

trial_le : (k : ℕ) (codes : List ℕ) (x y j : ℕ) → is_closed k codes y ≡ true → Parted x y j → trial k codes x j ≤ y
unfolding trial
trial_le k codes x y j c p = widening_le k codes (raised x j) y c (includes_raised k x y j p)

raised_le : (k : ℕ) (codes : List ℕ) (x j : ℕ) → x < 2 ^ k → j < k → raised x j ≤ trial k codes x j
unfolding trial
raised_le k codes x j h l =
    includes_le k (raised x j) (widening k codes (raised x j)) (raised_below k x j h l) (widening_extends k codes (raised x j))

-- A closed code above x has its trial accepted, at the place where the two part.
parted_accepted : (k : ℕ) (codes : List ℕ) (x y j : ℕ) → x < 2 ^ k → j < k → is_closed k codes y ≡ true → Parted x y j → Accepted k codes x j
parted_accepted k codes x y j h l c p =
    let low : raised x j / 2 ^ (j + 1) ≤ trial k codes x j / 2 ^ (j + 1) = shr_mono (j + 1) (raised_le k codes x j h l) in
    let high : trial k codes x j / 2 ^ (j + 1) ≤ y / 2 ^ (j + 1) = shr_mono (j + 1) (trial_le k codes x y j c p) in
    record { place = l; lacks = bit_zero x j p.lacks; kept = omega (arith, raised_agrees x j, p.agree) }

-- An accepted trial parts from x at its place.
accepted_parted : (k : ℕ) (codes : List ℕ) (x j : ℕ) → Accepted k codes x j → Parted x (trial k codes x j) j
unfolding trial
accepted_parted k codes x j a =
    record {
      agree = sym a.kept;
      lacks = zero_bit x j a.lacks;
      gains = includes_bit k (raised x j) (widening k codes (raised x j)) j (widening_extends k codes (raised x j)) a.place (raised_here x j);
    }

-- A trial accepted below the place where x and y part is below y.
accepted_lower : (k : ℕ) (codes : List ℕ) (x y i j : ℕ) → Accepted k codes x i → i < j → Parted x y j → trial k codes x i < y
accepted_lower k codes x y i j a h p =
    parted_less (trial k codes x i) y j
    (record {
      agree = agree_higher (trial k codes x i) x i j a.kept (omega arith) ∙ p.agree;
      lacks = agree_bit (trial k codes x i) x i j a.kept h ∙ p.lacks;
      gains = p.gains;
    })

first_is_least : (k : ℕ) (codes : List ℕ) (x j : ℕ) → x < 2 ^ k → FirstAccepted k codes x j → LeastAbove (is_closed k codes) (2 ^ k) x (trial k codes x j)
unfolding trial
first_is_least k codes x j h f =
    record {
      passes = widening_closed k codes (raised x j);
      within = widening_below k codes (raised x j);
      greater = parted_less x (trial k codes x j) j (accepted_parted k codes x j f.accepted);
      least = λ y b c l.
          let d = parted k x y l b in
          let p = d.2 in
          let a = parted_accepted k codes x y d.0 h d.1 c p in
          ⊎_elim (λ e. trial_le k codes x y j c (subst (Parted x y) (sym e) p))
          (⊎_elim (λ b. let s = accepted_lower k codes x y j d.0 f.accepted b p in omega arith) (λ b. absurd (f.none_lower d.0 b a)))
          (cases_order j d.0);
    }

pub first_is_next : (k : ℕ) (codes : List ℕ) (x j : ℕ) → x < 2 ^ k → FirstAccepted k codes x j → next_closed k codes x ≡ Some (trial k codes x j)
unfolding next_closed
first_is_next k codes x j h f = least_found (is_closed k codes) (2 ^ k) x (trial k codes x j) (first_is_least k codes x j h f)

pub none_is_last : (k : ℕ) (codes : List ℕ) (x : ℕ) → x < 2 ^ k → ((j : ℕ) → Accepted k codes x j → ⊥) → next_closed k codes x ≡ None
unfolding next_closed NoneAbove
none_is_last k codes x h none =
    none_found (is_closed k codes) (2 ^ k) x
    (λ y b c l. let d = parted k x y l b in none d.0 (parted_accepted k codes x y d.0 h d.1 c d.2))

pub next_is_least : (k : ℕ) (codes : List ℕ) (x z : ℕ) → next_closed k codes x ≡ Some z → LeastAbove (is_closed k codes) (2 ^ k) x z
unfolding next_closed
next_is_least k codes x z e = found_least (is_closed k codes) (2 ^ k) x z e

pub none_above : (k : ℕ) (codes : List ℕ) (x : ℕ) → next_closed k codes x ≡ None → NoneAbove (is_closed k codes) (2 ^ k) x
unfolding next_closed
none_above k codes x e = found_none (is_closed k codes) (2 ^ k) x e

-- Above the codes of k conditions there is none.
pub none_past : (k : ℕ) (codes : List ℕ) (x : ℕ) → 2 ^ k ≤ x → next_closed k codes x ≡ None
unfolding next_closed NoneAbove
none_past k codes x h = none_found (is_closed k codes) (2 ^ k) x (λ y b c l. omega arith)
