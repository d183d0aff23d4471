-- The order of the triples of a register file.
use Rattle.std.proofs.Common.{◌≡◌, ℕ, zero, suc, ◌+◌, ◌-◌, ◌*◌, ◌/◌, ◌<◌, ◌≤◌, true, List, map, length, Some, sym, ap, ◌∙◌, subst, inl, inr, ⊎_elim, arith}
use Rattle.std.specs.List.{range_with_len, slice_get}
use Rattle.std.proofs.lemmas.Option.{slice_get-get_or, slice_get_past}
use Rattle.std.proofs.lemmas.List.FromFn.{length-map-range_with_len, get_or-map-range_with_len}
use Rattle.std.proofs.lemmas.Bool.{cond-true, cond-false, eq-eqb, ne_eqb, ltb-true, cases_lt, cases_eq, cases_order}
use Rattle.records.specs.declared.kinds.triple.Triple.{Triple}
use Rattle.tables.specs.Register.{triples_in, comes_before, Before, Ordered}
use Rattle.tables.specs.RegisterSearch.{triple_at, key_at, Rising}
use Rattle.tables.specs.Triples.{Allowed, triples_by_number}

-- the test, as the order that it tests
pub before_from_test : (a b : Triple) → comes_before a b ≡ true → Before a b
before_from_test a b h =
    ⊎_elim
    (λ (s : a.subject ≡ b.subject).
    ⊎_elim
    (λ (p : a.property ≡ b.property).
    inr (s, inr (p, ltb-true a.value b.value (sym (cond-true _ _ _ (eq-eqb _ _ s) ∙ cond-true _ _ _ (eq-eqb _ _ p)) ∙ h))))
    (λ (p : a.property ≡ b.property → ⊥).
    inr (s, inl (ltb-true a.property b.property (sym (cond-true _ _ _ (eq-eqb _ _ s) ∙ cond-false _ _ _ (ne_eqb _ _ p)) ∙ h))))
    (cases_eq a.property b.property))
    (λ (s : a.subject ≡ b.subject → ⊥). inl (ltb-true a.subject b.subject (sym (cond-false _ _ _ (ne_eqb _ _ s)) ∙ h)))
    (cases_eq a.subject b.subject)

pub before_trans : (a b d : Triple) → Before a b → Before b d → Before a d
before_trans a b d h l =
    ⊎_elim
    (λ (s : a.subject < b.subject). inl (⊎_elim (λ (t : b.subject < d.subject). omega arith) (λ t. omega (arith, t.0)) l))
    (λ s.
    ⊎_elim
    (λ (t : b.subject < d.subject). inl (omega (arith, s.0)))
    (λ t.
    inr (
      s.0 ∙ t.0,
      ⊎_elim
          (λ (p : a.property < b.property). inl (⊎_elim (λ (q : b.property < d.property). omega arith) (λ q. omega (arith, q.0)) t.1))
          (λ p.
          ⊎_elim
          (λ (q : b.property < d.property). inl (omega (arith, p.0)))
          (λ q. inr (p.0 ∙ q.0, omega (arith, p.1, q.1)))
          t.1)
          s.1,
    ))
    l)
    h

pub before_never_itself : (a : Triple) → Before a a → ⊥
before_never_itself a h =
    ⊎_elim (λ (s : a.subject < a.subject). omega arith) (λ s. ⊎_elim (λ (p : a.property < a.property). omega arith) (λ p. omega (arith, p.1)) s.1) h

-- an earlier triple is before a later one
ascending_by : (xs : List ℕ) (n m : ℕ) → Allowed xs n m → (d j : ℕ) → j + d + 1 < length xs / 12 → Before (triple_at xs j) (triple_at xs (j + d + 1))
ascending_by xs n m h zero j l =
    let q : j + 1 ≡ j + 0 + 1 = omega arith in
    let P : ℕ → Type 0 = λ k. Before (triple_at xs j) (triple_at xs k) in
    subst P q (before_from_test (triple_at xs j) (triple_at xs (j + 1)) (h.after j (omega arith)))
ascending_by xs n m h (suc d) j l =
    let q : j + d + 1 + 1 ≡ j + suc d + 1 = omega arith in
    let P : ℕ → Type 0 = λ k. Before (triple_at xs j) (triple_at xs k) in
    let last = before_from_test (triple_at xs (j + d + 1)) (triple_at xs (j + d + 1 + 1)) (h.after (j + d + 1) (omega arith)) in
    subst P q (before_trans _ _ _ (ascending_by xs n m h d j (omega arith)) last)

pub ascending : (xs : List ℕ) (n m : ℕ) → Allowed xs n m → (j k : ℕ) → j < k → k < length xs / 12 → Before (triple_at xs j) (triple_at xs k)
ascending xs n m h j k l e =
    let q : j + (k - j - 1) + 1 ≡ k = omega arith in
    let P : ℕ → Type 0 = λ i. Before (triple_at xs j) (triple_at xs i) in
    subst P q (ascending_by xs n m h (k - j - 1) j (omega arith))

-- what stands at a place of the list of triples
at_place : (f : ℕ → Triple) (c i : ℕ) (t : Triple) → slice_get (map f (range_with_len 0 c)) i ≡ Some t → (i < c) × (f i ≡ t)
at_place f c i t h =
    ⊎_elim
    (λ (l : i < c).
    let e = slice_get-get_or (map f (range_with_len 0 c)) i t (omega (arith, length-map-range_with_len f 0 c)) in
    let g = get_or-map-range_with_len f 0 c i i t l (omega arith) in
    (l, cc))
    (λ (l : c ≤ i).
    let e = slice_get_past (map f (range_with_len 0 c)) i (omega (arith, length-map-range_with_len f 0 c)) in
    let z : ◌≡◌ {A = ℕ} 0 1 = cc in
    absurd (omega arith))
    (cases_lt i c)

pub ordered : (xs : List ℕ) (n m : ℕ) → Allowed xs n m → Ordered n m (triples_in xs)
ordered xs n m h =
    let c = length xs / 12 in
    let place : (i : ℕ) (t : Triple) → slice_get (triples_in xs) i ≡ Some t → (i < c) × (triple_at xs i ≡ t) = λ i t e.
    at_place (triple_at xs) c i t (ap (λ (ts : List Triple). slice_get ts i) (sym (triples_by_number xs)) ∙ e)
    in
    let up : (i j : ℕ) (a b : Triple) → i < j → slice_get (triples_in xs) i ≡ Some a → slice_get (triples_in xs) j ≡ Some b → Before a b = λ i j a b l d e.
    let P : Triple → Type 0 = λ t. Before t (triple_at xs j) in
    subst (Before a) (place j b e).1 (subst P (place i a d).1 (ascending xs n m h i j l (place j b e).0))
    in
    record {
      within = λ i t e.
          let P : Triple → Type 0 = λ u. (u.subject < n) × (u.property < m) in
          subst P (place i t e).1 (h.inside i (place i t e).0);
      ascending = up;
      once = λ i j t d e.
          ⊎_elim
          (λ (q : i ≡ j). q)
          (λ q. absurd (⊎_elim (λ (l : i < j). before_never_itself t (up i j t t l d e)) (λ (l : j < i). before_never_itself t (up j i t t l e d)) q))
          (cases_order i j);
    }

-- keys never fall
key_before : (a b : Triple) → Before a b → a.property < 64 → a.subject * 64 + a.property ≤ b.subject * 64 + b.property
key_before a b h l =
    ⊎_elim (λ (s : a.subject < b.subject). omega arith) (λ s. ⊎_elim (λ (p : a.property < b.property). omega (arith, s.0)) (λ p. omega (arith, s.0, p.0)) s.1) h

pub rising : (xs : List ℕ) (n m : ℕ) → Allowed xs n m → Rising xs
rising xs n m h j k l e =
    ⊎_elim
    (λ (b : j < k). key_before (triple_at xs j) (triple_at xs k) (ascending xs n m h j k b e) (omega (arith, (h.inside j (omega arith)).1, h.narrow)))
    (λ (b : k ≤ j). let q : j ≡ k = omega arith in omega (arith, ap (key_at xs) q))
    (cases_lt j k)
