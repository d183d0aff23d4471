-- The search for the first accepted trial, as code computes it with shifts in words of w bits.
use Rattle.std.proofs.Common.{◌≡◌, ℕ, ◌+◌, ◌*◌, ◌/◌, ◌%◌, ◌^◌, ◌<◌, ◌≤◌, List, Some, None, Option, MatchOption, sym, ap, ◌∙◌, arith, shr-shr}
use Rattle.lattice.specs.Closed.{next_closed, trial, Accepted}
use Rattle.lattice.specs.Widening.{widening}
use Rattle.lattice.proofs.Bits.{zero_bit}
use Rattle.lattice.proofs.Order.{raised_in_word}
use Rattle.lattice.proofs.Raising.{first_is_next, none_is_last}

-- The set that is tried, `((x >> j) + 1) << j`.
pub tried_is_trial : (w k : ℕ) (codes : List ℕ) (x j : ℕ) → k ≤ w → x < 2 ^ k → j < k → x / 2 ^ j % 2 ≡ 0 → widening k codes (((x / 2 ^ j + 1) * 2 ^ j) % 2 ^ w) ≡ trial k codes x j
unfolding trial
tried_is_trial w k codes x j h b l e = ap (widening k codes) (raised_in_word w k x j h b l (zero_bit x j e))

-- The test `(t >> j) / 2 == (x >> j) / 2`, passed and failed.
pub passed_accepted : (k : ℕ) (codes : List ℕ) (x j t : ℕ) → j < k → x / 2 ^ j % 2 ≡ 0 → t ≡ trial k codes x j → t / 2 ^ j / 2 ≡ x / 2 ^ j / 2 → Accepted k codes x j
passed_accepted k codes x j t l e q s =
    record { place = l; lacks = e; kept = ap (λ (v : ℕ). v / 2 ^ (j + 1)) (sym q) ∙ sym (shr-shr t j 1) ∙ s ∙ shr-shr x j 1 }

pub failed_refused : (k : ℕ) (codes : List ℕ) (x j t : ℕ) → t ≡ trial k codes x j → (t / 2 ^ j / 2 ≡ x / 2 ^ j / 2 → ⊥) → Accepted k codes x j → ⊥
failed_refused k codes x j t q n a = n (shr-shr t j 1 ∙ ap (λ (v : ℕ). v / 2 ^ (j + 1)) q ∙ a.kept ∙ sym (shr-shr x j 1))

-- What the search came to is the next closed code.
pub search_ended : (k : ℕ) (codes : List ℕ) (x : ℕ) → x < 2 ^ k → (r : Option ℕ) → MatchOption r ((j : ℕ) → 0 ≤ j → j < k → Accepted k codes x j → ⊥) (λ t. (j : ℕ) × (0 ≤ j) × (j < k) × (Accepted k codes x j × (t ≡ trial k codes x j)) × ((i : ℕ) → 0 ≤ i → i < j → Accepted k codes x i → ⊥)) → r ≡ next_closed k codes x
search_ended k codes x h None none = sym (none_is_last k codes x h (λ j a. none j (omega arith) a.place a))
search_ended k codes x h (Some t) (j, _, _, at, none) =
    ap (λ (v : ℕ). Some v) at.1 ∙ sym (first_is_next k codes x j h (record { accepted = at.0; none_lower = λ i l. none i (omega arith) l }))
