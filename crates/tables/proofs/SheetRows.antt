-- The words of a tick sheet, one subject after another.
use Rattle.std.proofs.Common.{◌≡◌, ℕ, ◌+◌, ◌-◌, ◌*◌, ◌<◌, ◌≤◌, Bool, false, ◌&&◌, List, ◌++◌, length, take, drop, ◌≢◌, slice_index, sym, ap, ◌∙◌, arith, ⊎_elim, length-append, add-mul, one-mul, zero-mul}
use Rattle.std.proofs.lemmas.List.{at_drop_more, take_at, drop_at, drop-drop}
use Rattle.std.proofs.lemmas.Bool.{cases_lt, eq-eqb, ne_eqb}
use Rattle.tables.specs.TickSheet.{row, all_zero}

-- words from i on that are to be 0: at one that is not, and at one that is
pub zero_here : (ws : List ℕ) (i : ℕ) → i < length ws → (slice_index ws i ≢ 0) → all_zero (drop i ws) ≡ false
zero_here ws i l e = at_drop_more all_zero ws i 0 l ∙ ap (λ (b : Bool). b && all_zero (drop (i + 1) ws)) (ne_eqb _ _ e)

pub zero_next : (ws : List ℕ) (i : ℕ) → i < length ws → slice_index ws i ≡ 0 → all_zero (drop i ws) ≡ all_zero (drop (i + 1) ws)
zero_next ws i l e = at_drop_more all_zero ws i 0 l ∙ ap (λ (b : Bool). b && all_zero (drop (i + 1) ws)) (eq-eqb _ _ e)

-- what is left before subject s of n with m properties, in parts of a size
pub record Left (ws : List ℕ) (n m s size : ℕ) (rest : List ℕ) : Type 0 where
  pub part : size ≡ m + 1
  pub behind : rest ≡ drop (s * (m + 1)) ws
  pub whole : length rest ≡ (n - s) * (m + 1)

pub left_begin : (ws : List ℕ) (n m s size : ℕ) (rest : List ℕ) → length ws ≡ n * (m + 1) → size ≡ m + 1 → rest ≡ ws → s ≡ 0 → Left ws n m s size rest
left_begin ws n m s size rest l part same first =
    let none : s * (m + 1) ≡ 0 = omega (arith, ap (λ (j : ℕ). j * (m + 1)) first, zero-mul (m + 1)) in
    let all : n - s ≡ n = omega arith in
    record { part = part; behind = same ∙ sym (ap (λ (j : ℕ). drop j ws) none); whole = ap length same ∙ l ∙ sym (ap (λ (j : ℕ). j * (m + 1)) all) }

-- at the words of a subject, which are the first that are left
pub left_here : (ws : List ℕ) (n m s size : ℕ) (r rest more : List ℕ) → Left ws n m s size rest → rest ≡ r ++ more → length r ≡ size → (s < n) × (r ≡ row ws m s)
left_here ws n m s size r rest more h e l =
    let k = m + 1 in (
      ⊎_elim
          (λ (b : s < n). b)
          (λ (b : n ≤ s). let z : n - s ≡ 0 = omega arith in absurd (omega (arith, ap (λ (j : ℕ). j * k) z, h.whole, h.part, ap length e, length-append r more)))
          (cases_lt s n),
      sym (take_at r more k (l ∙ h.part)) ∙ ap (take k) (sym e ∙ h.behind),
    )

-- and behind them
pub left_next : (ws : List ℕ) (n m s t size : ℕ) (r rest more : List ℕ) → Left ws n m s size rest → rest ≡ r ++ more → length r ≡ size → t ≡ s + 1 → Left ws n m t size more
left_next ws n m s t size r rest more h e l q =
    let k = m + 1 in
    let b = (left_here ws n m s size r rest more h e l).0 in
    let d : n - s ≡ (n - t) + 1 = omega arith in
    let there : s * k + k ≡ t * k = omega (arith, ap (λ (j : ℕ). j * k) q, add-mul s 1 k, one-mul k) in
    record {
      part = h.part;
      behind = sym (drop_at r more k (l ∙ h.part)) ∙ ap (drop k) (sym e ∙ h.behind) ∙ drop-drop k (s * k) ws ∙ ap (λ (j : ℕ). drop j ws) there;
      whole = omega (arith, h.whole, h.part, ap length e, length-append r more, ap (λ (j : ℕ). j * k) d, add-mul (n - t) 1 k, one-mul k);
    }

-- where less is left than a part, every subject was seen
pub left_end : (ws : List ℕ) (n m s size : ℕ) (rest : List ℕ) → Left ws n m s size rest → length rest < size → n ≤ s
left_end ws n m s size rest h l =
    let k = m + 1 in
    ⊎_elim
    (λ (b : s < n). let d : n - s ≡ (n - (s + 1)) + 1 = omega arith in absurd (omega (arith, h.whole, h.part, ap (λ (j : ℕ). j * k) d, add-mul (n - (s + 1)) 1 k, one-mul k)))
    (λ (b : n ≤ s). b)
    (cases_lt s n)
