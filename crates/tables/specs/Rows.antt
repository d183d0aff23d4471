-- Lemmas on the words of a tick sheet: the check of one subject after another, and what a sheet that passes keeps. The lemmas stand here and not in proofs/: src/ cites them, and can cite nothing of its own crate's proofs/.
use Rattle.std.specs.Prelude.{◌≡◌, ℕ, zero, suc, ◌+◌, ◌-◌, ◌*◌, ◌<◌, ◌≤◌, Bool, true, false, cond, ◌&&◌, ◌⊎◌, List, [], ◌∷◌, map, length, take, drop, is_some, Some, None, Option, ◌==◌, ◌≢◌, nat_le, nat_lt, slice_index, refl}
use Rattle.std.proofs.Common.{sym, ap, subst, ◌∙◌, inl, inr, ⊎_elim, arith, mul-le-mul_right, add-mul, one-mul}
use Rattle.std.specs.List.{range_with_len}
use Rattle.std.proofs.lemmas.List.{get_or-drop, take_rest}
use Rattle.std.proofs.lemmas.Bool.{cond-true, eq-eqb, ne_eqb, eqb-true, leb-true, le-ltb, le-leb, true≢false, false≢true, cases_eq}
use Rattle.records.specs.Refusals.{Refusal}
use Rattle.records.specs.Questions.{first_no}
use Rattle.tables.specs.TickSheet.{row, presence_word, tick_word, all_zero, clear_if_absent, row_fault, rows_fault, sheet_fault, sheet, ticked, Consistent}
use Rattle.tables.specs.Ticks.{ticked_zero}
use Rattle.records.proofs.Questions.{answered, both_answered}

-- words that are all 0
zero_first : (w : ℕ) (d : Bool) → ((w == 0) && d) ≡ true → (w ≡ 0) × (d ≡ true)
zero_first w d h =
    ⊎_elim
    (λ (e : w ≡ 0). (e, sym (ap (λ (b : Bool). b && d) (eq-eqb w 0 e)) ∙ h))
    (λ (e : w ≡ 0 → ⊥). absurd (false≢true (sym (ap (λ (b : Bool). b && d) (ne_eqb w 0 e)) ∙ h)))
    (cases_eq w 0)

zero_each : (ws : List ℕ) → all_zero ws ≡ true → (i : ℕ) → slice_index ws i ≡ 0
zero_each [] h i = refl
zero_each (w ∷ ws) h i =
    let parts = zero_first w (all_zero ws) h in
    elim i as (λ j. slice_index (w ∷ ws) j ≡ 0) [ zero ↦ parts.0 | suc j ↦ zero_each ws parts.1 j ]

-- the words of a subject below n lie in the sheet
pub row_lies : (n m s len : ℕ) → s < n → len ≡ n * (m + 1) → s * (m + 1) + (m + 1) ≤ len
row_lies n m s len l e =
    let a : (s + 1) * (m + 1) ≤ n * (m + 1) = mul-le-mul_right (m + 1) (omega arith) in
    omega (arith, a, add-mul s 1 (m + 1), one-mul (m + 1))

-- a row, as its first word and the part behind it
pub row_parts : (r : List ℕ) → 0 < length r → slice_index r 0 ∷ take (length r - 1) (drop 1 r) ≡ r
row_parts [] l = absurd (omega arith)
row_parts (w ∷ r) l = ap (λ (v : List ℕ). w ∷ v) (take_rest (w ∷ r) 1)

-- the first "no" to the rows f s, f (s + 1), .. below n: at a row that is refused, at one that passes, and at the end
rows_step : (f : ℕ → List ℕ) (s n : ℕ) → s < n → rows_fault s (map f (range_with_len s (n - s))) ≡ first_no (row_fault s (f s)) (rows_fault (s + 1) (map f (range_with_len (s + 1) (n - (s + 1)))))
rows_step f s n l =
    let q : n - s ≡ suc (n - (s + 1)) = omega arith in
    ap (λ (z : ℕ). rows_fault s (map f (range_with_len s z))) q

pub rows_here : (f : ℕ → List ℕ) (s n : ℕ) (e : Refusal) → s < n → row_fault s (f s) ≡ Some e → rows_fault s (map f (range_with_len s (n - s))) ≡ Some e
rows_here f s n e l h =
    rows_step f s n l ∙ ap (λ (o : Option Refusal). first_no o (rows_fault (s + 1) (map f (range_with_len (s + 1) (n - (s + 1)))))) h

pub rows_next : (f : ℕ → List ℕ) (s n : ℕ) → s < n → row_fault s (f s) ≡ None → rows_fault s (map f (range_with_len s (n - s))) ≡ rows_fault (s + 1) (map f (range_with_len (s + 1) (n - (s + 1))))
rows_next f s n l h =
    rows_step f s n l ∙ ap (λ (o : Option Refusal). first_no o (rows_fault (s + 1) (map f (range_with_len (s + 1) (n - (s + 1)))))) h

pub rows_end : (f : ℕ → List ℕ) (s n : ℕ) → n ≤ s → rows_fault s (map f (range_with_len s (n - s))) ≡ None
rows_end f s n l =
    let q : n - s ≡ 0 = omega arith in
    ap (λ (z : ℕ). rows_fault s (map f (range_with_len s z))) q

-- where the questions to the whole sheet are answered yes, those to its subjects are left
pub rows_begin : (ws : List ℕ) (n m : ℕ) → n ≤ 2048 → m ≤ 64 → length ws ≡ n * (m + 1) → rows_fault 0 (map (row ws m) (range_with_len 0 (n - 0))) ≡ sheet_fault ws n m
rows_begin ws n m few narrow whole =
    let q : n - 0 ≡ n = omega arith in
    ap (λ (z : ℕ). rows_fault 0 (map (row ws m) (range_with_len 0 z))) q
    ∙ sym (cond-true _ _ _ (le-leb _ _ few) ∙ cond-true _ _ _ (le-leb _ _ narrow) ∙ cond-true _ _ _ (eq-eqb _ _ whole))

-- every row of a sheet that passes
each_passes : (f : ℕ → List ℕ) (n s : ℕ) → is_some (rows_fault s (map f (range_with_len s n))) ≡ false → (i : ℕ) → i < n → is_some (row_fault (s + i) (f (s + i))) ≡ false
each_passes f zero s h i l = absurd (omega arith)
each_passes f (suc n) s h i l =
    let both = both_answered (row_fault s (f s)) (rows_fault (s + 1) (map f (range_with_len (s + 1) n))) h in
    let P : ℕ → Type 0 = λ j. is_some (row_fault j (f j)) ≡ false in
    ⊎_elim
    (λ (z : i ≡ 0). let q : s ≡ s + i = omega arith in subst P q both.0)
    (λ (z : i ≡ 0 → ⊥). let q : s + 1 + (i - 1) ≡ s + i = omega arith in subst P q (each_passes f n (s + 1) both.1 (i - 1) (omega arith)))
    (cases_eq i 0)

-- what a tick sheet keeps
pub record Allowed (ws : List ℕ) (n m : ℕ) : Type 0 where
  pub few : n ≤ 2048
  pub narrow : m ≤ 64
  pub consistent : Consistent n m ws

pub allowed_from : (ws : List ℕ) (n m : ℕ) → is_some (sheet_fault ws n m) ≡ false → Allowed ws n m
allowed_from ws n m h =
    let a = answered (nat_le n 2048) _ (2, 0) h in
    let b = answered (nat_le m 64) _ (3, 0) a.1 in
    let d = answered (length ws == n * (m + 1)) _ (8, 0) b.1 in
    let passes : (s : ℕ) → s < n → (presence_word (row ws m s) ≤ 1) × (clear_if_absent (row ws m s) ≡ true) = λ s l.
    let q : 0 + s ≡ s = omega arith in
    let P : ℕ → Type 0 = λ j. is_some (row_fault j (row ws m j)) ≡ false in
    let e = answered (nat_le (presence_word (row ws m s)) 1) _ (9, s) (subst P q (each_passes (row ws m) n 0 d.1 s l)) in
    (leb-true _ _ e.0, (answered (clear_if_absent (row ws m s)) None (10, s) e.1).0)
    in
    record {
      few = leb-true _ _ a.0;
      narrow = leb-true _ _ b.0;
      consistent = record {
        whole = eqb-true _ _ d.0;
        zero_or_one = λ s l.
            let w = presence_word (row ws m s) in
            ⊎_elim (λ (e : w ≡ 0). inl e) (λ (e : w ≡ 0 → ⊥). inr (omega (arith, (passes s l).0))) (cases_eq w 0);
        absent_unticked = λ s p l e.
            let clear : all_zero (drop 1 (row ws m s)) ≡ true = sym (cond-true _ _ _ (eq-eqb _ _ e)) ∙ (passes s l).1 in
            let q : 1 + p ≡ p + 1 = omega arith in
            ap (λ (k : ℕ). slice_index (row ws m s) k) (sym q) ∙ sym (get_or-drop 1 (row ws m s) p 0) ∙ zero_each (drop 1 (row ws m s)) clear p;
      };
    }

-- where the list of a subject and property is empty
list_shut : (a b d : Bool) (vs : List ℕ) → (a ≡ false) ⊎ ((b ≡ false) ⊎ (d ≡ false)) → cond (cond a b false) (cond d vs []) [] ≡ []
list_shut false b d vs h = refl
list_shut true false d vs h = refl
list_shut true true false vs h = refl
list_shut true true true vs h = absurd (⊎_elim true≢false (λ k. ⊎_elim true≢false true≢false k) h)

pub list_none : (ws : List ℕ) (n m s p : ℕ) → (n ≤ s) ⊎ ((presence_word (row ws m s) ≢ 1) ⊎ (m ≤ p)) → (sheet ws n m).values s p ≡ ticked 0
list_none ws n m s p h =
    list_shut (nat_lt s n) (presence_word (row ws m s) == 1) (nat_lt p m) (ticked (tick_word (row ws m s) p))
    (⊎_elim (λ l. inl (le-ltb s n l)) (λ k. inr (⊎_elim (λ e. inl (ne_eqb _ _ e)) (λ l. inr (le-ltb p m l)) k)) h)
    ∙ sym ticked_zero
