-- The triples of one subject and property stand together in a register file. The lemmas stand here and not in proofs/: src/ cites them, and can cite nothing of its own crate's proofs/.
use Rattle.std.specs.Prelude.{◌≡◌, ℕ, zero, suc, ◌+◌, ◌-◌, ◌*◌, ◌/◌, ◌^◌, ◌<◌, ◌≤◌, Bool, true, false, cond, not, ◌⊎◌, List, [], ◌∷◌, map, length, Some, filter, ◌≢◌, slice_index, refl}
use Rattle.std.proofs.Common.{sym, ap, ◌∙◌, ⊎_elim, arith}
use Rattle.std.specs.List.{range_with_len, AllByRecursion, slice_get}
use Rattle.std.proofs.lemmas.List.FromFn.{length-map-range_with_len, get_or-map-range_with_len}
use Rattle.std.proofs.ByRecursion.{All-map, all_kept_by}
use Rattle.std.proofs.lemmas.List.Filters.{length-filter_both}
use Rattle.std.proofs.lemmas.List.{length-map}
use Rattle.std.proofs.lemmas.Option.{slice_get-get_or, slice_get_past}
use Rattle.std.proofs.lemmas.Bool.{cond-true, cond-false, eq-eqb, ne_eqb, cases_lt, cases_eq}
use Rattle.records.specs.Reading.{record_at}
use Rattle.records.proofs.Bytes.{fields_in_below}
use Rattle.records.proofs.Trips.{record_below}
use Rattle.records.specs.declared.kinds.triple.Triple.{Triple}
use Rattle.tables.specs.Register.{triples_in, is_of, values_of}
use Rattle.tables.specs.RegisterSearch.{triple_at, key_at, value_at, Span}
use Rattle.tables.specs.Triples.{Allowed, triples_by_number}

-- a test that passes from low on and below high keeps just these
kept_range : (q : ℕ → Bool) (c a low high : ℕ) → a ≤ low → low ≤ high → high ≤ a + c → ((k : ℕ) → a ≤ k → k < low → q k ≡ false) → ((k : ℕ) → low ≤ k → k < high → q k ≡ true) → ((k : ℕ) → high ≤ k → k < a + c → q k ≡ false) → filter q (range_with_len a c) ≡ range_with_len low (high - low)
kept_range q zero a low high al lh hc f g h = let e : high - low ≡ 0 = omega arith in sym (ap (range_with_len low) e)
kept_range q (suc c) a low high al lh hc f g h =
    ⊎_elim
    (λ (b : a < low).
    cond-false _ _ _ (f a (omega arith) b)
    ∙ kept_range q c (a + 1) low high (omega arith) lh (omega arith) (λ k i j. f k (omega arith) j) g (λ k i j. h k i (omega arith)))
    (λ (b : low ≤ a).
    ⊎_elim
    (λ (d : a < high).
    let e : low ≡ a = omega arith in
    let t : high - low ≡ suc (high - (a + 1)) = omega arith in
    cond-true _ _ _ (g a b d)
    ∙ ap (λ (ys : List ℕ). a ∷ ys) (kept_range q c (a + 1) (a + 1) high (omega arith) (omega arith) (omega arith) (λ k i j. absurd (omega arith)) (λ k i j. g k (omega arith) j) (λ k i j. h k i (omega arith)))
    ∙ sym (ap (λ (z : ℕ). range_with_len z (high - low)) e ∙ ap (range_with_len a) t))
    (λ (d : high ≤ a).
    let t : high - low ≡ 0 = omega arith in
    let u : a + 1 - (a + 1) ≡ 0 = omega arith in
    cond-false _ _ _ (h a d (omega arith))
    ∙ kept_range q c (a + 1) (a + 1) (a + 1) (omega arith) (omega arith) (omega arith) (λ k i j. absurd (omega arith)) (λ k i j. absurd (omega arith)) (λ k i j. h k (omega arith) (omega arith))
    ∙ ap (range_with_len (a + 1)) u
    ∙ sym (ap (range_with_len low) t))
    (cases_lt a high))
    (cases_lt a low)

-- a filter of what f makes
kept_by_map : (f : ℕ → Triple) (q : Triple → Bool) (ks : List ℕ) → filter q (map f ks) ≡ map f (filter (λ k. q (f k)) ks)
kept_by_map f q [] = refl
kept_by_map f q (k ∷ ks) =
    let step : (b : Bool) → cond b (f k ∷ filter q (map f ks)) (filter q (map f ks)) ≡ map f (cond b (k ∷ filter (λ j. q (f j)) ks) (filter (λ j. q (f j)) ks)) = λ b.
    elim b as (λ v. cond v (f k ∷ filter q (map f ks)) (filter q (map f ks)) ≡ map f (cond v (k ∷ filter (λ j. q (f j)) ks) (filter (λ j. q (f j)) ks))) [ true ↦ ap (λ (ts : List Triple). f k ∷ ts) (kept_by_map f q ks) | false ↦ kept_by_map f q ks ]
    in
    step (q (f k))

map-map : (f : ℕ → Triple) (g : Triple → ℕ) (ks : List ℕ) → map g (map f ks) ≡ map (λ k. g (f k)) ks
map-map f g [] = refl
map-map f g (k ∷ ks) = ap (λ (vs : List ℕ). g (f k) ∷ vs) (map-map f g ks)

-- where the triples of a subject and property are those numbered from low on and below high, so are their values
values_by_number : (xs : List ℕ) (s p low high : ℕ) → filter (λ k. is_of s p (triple_at xs k)) (range_with_len 0 (length xs / 12)) ≡ range_with_len low (high - low) → values_of (triples_in xs) s p ≡ map (value_at xs) (range_with_len low (high - low))
values_by_number xs s p low high h =
    ap (λ (ts : List Triple). values_of ts s p) (triples_by_number xs)
    ∙ ap (map (λ (t : Triple). t.value)) (kept_by_map (triple_at xs) (is_of s p) (range_with_len 0 (length xs / 12)))
    ∙ map-map (triple_at xs) (λ t. t.value) (filter (λ k. is_of s p (triple_at xs k)) (range_with_len 0 (length xs / 12)))
    ∙ ap (map (value_at xs)) h

span_from : (xs : List ℕ) (s p low high : ℕ) → low ≤ high → high ≤ length xs / 12 → values_of (triples_in xs) s p ≡ map (value_at xs) (range_with_len low (high - low)) → Span xs s p low high
span_from xs s p low high upward inside same =
    let vs = map (value_at xs) (range_with_len low (high - low)) in
    let long = length-map-range_with_len (value_at xs) low (high - low) in
    record {
      upward = upward;
      inside = inside;
      count = sym (ap length same ∙ long);
      entry = λ i l.
          sym (ap (λ (ys : List ℕ). slice_get ys i) same ∙ slice_get-get_or vs i 0 (omega arith) ∙ ap (λ (v : ℕ). Some v) (get_or-map-range_with_len (value_at xs) low (high - low) i (low + i) 0 l refl));
      past = λ i l. sym (ap (λ (ys : List ℕ). slice_get ys i) same ∙ slice_get_past vs i (omega arith));
    }

-- which triples are of subject s and property p
of_key : (t : Triple) (s p : ℕ) → t.subject * 64 + t.property ≡ s * 64 + p → t.property < 64 → p < 64 → is_of s p t ≡ true
of_key t s p e a b =
    let i : t.subject ≡ s = omega arith in
    let j : t.property ≡ p = omega arith in
    cond-true _ _ _ (eq-eqb _ _ i) ∙ eq-eqb _ _ j

not_of : (t : Triple) (s p : ℕ) → (t.subject ≡ s → t.property ≢ p) → is_of s p t ≡ false
not_of t s p h =
    ⊎_elim
    (λ (a : t.subject ≡ s). cond-true _ _ _ (eq-eqb _ _ a) ∙ ne_eqb _ _ (h a))
    (λ (a : t.subject ≡ s → ⊥). cond-false _ _ _ (ne_eqb _ _ a))
    (cases_eq t.subject s)

-- the span between the floors of a key and of the next key
pub span_between : (xs : List ℕ) (n m s p low high : ℕ) → Allowed xs n m → p < m → low ≤ length xs / 12 → ((k : ℕ) → k < low → key_at xs k < s * 64 + p) → ((k : ℕ) → low ≤ k → k < length xs / 12 → s * 64 + p ≤ key_at xs k) → high ≤ length xs / 12 → ((k : ℕ) → k < high → key_at xs k < s * 64 + p + 1) → ((k : ℕ) → high ≤ k → k < length xs / 12 → s * 64 + p + 1 ≤ key_at xs k) → Span xs s p low high
span_between xs n m s p low high h lp lw lb lf hw hb hf =
    let le : low ≤ high =
    ⊎_elim (λ (b : high < low). absurd (omega (arith, lb high b, hf high (omega arith) (omega arith)))) (λ (b : low ≤ high). b) (cases_lt high low)
    in
    span_from xs s p low high le hw
    (values_by_number xs s p low high
    (kept_range (λ k. is_of s p (triple_at xs k)) (length xs / 12) 0 low high (omega arith) le (omega arith)
    (λ k i j. not_of (triple_at xs k) s p (λ a b. omega (arith, lb k j)))
    (λ k i j. of_key (triple_at xs k) s p (omega (arith, lf k i (omega arith), hb k j)) (omega (arith, (h.inside k (omega arith)).1, h.narrow)) (omega (arith, h.narrow)))
    (λ k i j. not_of (triple_at xs k) s p (λ a b. omega (arith, hf k i (omega arith))))))

-- out of range there are none
pub values_outside : (xs : List ℕ) (n m s p : ℕ) → Allowed xs n m → (n ≤ s) ⊎ (m ≤ p) → values_of (triples_in xs) s p ≡ []
values_outside xs n m s p h o =
    values_by_number xs s p 0 0
    (kept_range (λ k. is_of s p (triple_at xs k)) (length xs / 12) 0 0 0 (omega arith) (omega arith) (omega arith) (λ k i j. absurd (omega arith)) (λ k i j. absurd (omega arith))
    (λ k i j.
    let f = h.inside k (omega arith) in
    not_of (triple_at xs k) s p (λ a b. ⊎_elim (λ (d : n ≤ s). omega (arith, f.0)) (λ (d : m ≤ p). omega (arith, f.1)) o)))

pub span_outside : (xs : List ℕ) (n m s p : ℕ) → Allowed xs n m → (n ≤ s) ⊎ (m ≤ p) → Span xs s p 0 0
span_outside xs n m s p h o = span_from xs s p 0 0 (omega arith) (omega arith) (values_outside xs n m s p h o)

-- lists are no longer than the file, and values fit four bytes
pub values_short : (xs : List ℕ) (s p : ℕ) → length (values_of (triples_in xs) s p) ≤ length xs / 12
values_short xs s p =
    omega (arith, length-map (filter (is_of s p) (triples_in xs)) (λ t. t.value), length-filter_both (is_of s p) (λ t. not (is_of s p t)) (λ _. refl) (triples_in xs), ap length (triples_by_number xs), length-map-range_with_len (triple_at xs) 0 (length xs / 12))

value_small : (xs : List ℕ) → ((i : ℕ) → slice_index xs i < 256) → (k : ℕ) → value_at xs k < 2 ^ 32
unfolding triple_at
value_small xs h k = fields_in_below (record_at 12 k xs) (record_below 12 k xs h) 2

all_of : {X : Type 0} (P : X → Type 0) → ((x : X) → P x) → (xs : List X) → AllByRecursion P xs
all_of P h [] = tt
all_of P h (x ∷ xs) = (h x, all_of P h xs)

pub values_small : (xs : List ℕ) (s p : ℕ) → ((i : ℕ) → slice_index xs i < 256) → AllByRecursion (λ v. v < 2 ^ 32) (values_of (triples_in xs) s p)
values_small xs s p h =
    let P : Triple → Type 0 = λ t. t.value < 2 ^ 32 in
    let each : AllByRecursion P (triples_in xs) =
    rw triples_by_number (All-map P (triple_at xs) (range_with_len 0 (length xs / 12)) (all_of (λ k. P (triple_at xs k)) (value_small xs h) (range_with_len 0 (length xs / 12))))
    in
    All-map (λ v. v < 2 ^ 32) (λ t. t.value) (filter (is_of s p) (triples_in xs)) (all_kept_by (is_of s p) P (triples_in xs) each)
