-- Lemmas on the triples of a register file: the check of one after another, and what a file that passes keeps. The lemmas stand here and not in proofs/: src/ cites them, and can cite nothing of its own crate's proofs/.
use Rattle.std.specs.Prelude.{◌≡◌, ℕ, zero, suc, ◌+◌, ◌-◌, ◌/◌, ◌%◌, ◌<◌, ◌≤◌, true, false, List, map, length, is_some, Some, None, Option, ◌==◌, nat_le, nat_lt, refl}
use Rattle.std.proofs.Common.{sym, ap, subst, ◌∙◌, ⊎_elim, arith}
use Rattle.std.specs.List.{range_with_len}
use Rattle.std.proofs.lemmas.Bool.{cond-true, eq-eqb, ltb-true, leb-true, le-leb, cases_eq}
use Rattle.records.specs.Refusals.{Refusal}
use Rattle.records.specs.declared.kinds.triple.Triple.{Triple}
use Rattle.records.specs.Questions.{first_no}
use Rattle.tables.specs.Register.{triples_in, follows, comes_before, triple_fault, triples_fault, register_fault}
use Rattle.tables.specs.RegisterSearch.{triple_at}
use Rattle.records.proofs.Questions.{answered, both_answered}

-- the triples, by their numbers
pub triples_by_number : (xs : List ℕ) → triples_in xs ≡ map (triple_at xs) (range_with_len 0 (length xs / 12))
unfolding triples_in triple_at
triples_by_number xs = refl

-- the first "no" to the triples f k, f (k + 1), .. below c: at a triple that is refused, and at one that passes
fault_step : (f : ℕ → Triple) (n m k c : ℕ) (before : Option Triple) → k < c → triples_fault n m k before (map f (range_with_len k (c - k))) ≡ first_no (triple_fault n m k before (f k)) (triples_fault n m (k + 1) (Some (f k)) (map f (range_with_len (k + 1) (c - (k + 1)))))
fault_step f n m k c before l =
    let q : c - k ≡ suc (c - (k + 1)) = omega arith in
    ap (λ (z : ℕ). triples_fault n m k before (map f (range_with_len k z))) q

pub fault_here : (f : ℕ → Triple) (n m k c : ℕ) (before : Option Triple) (e : Refusal) → k < c → triple_fault n m k before (f k) ≡ Some e → triples_fault n m k before (map f (range_with_len k (c - k))) ≡ Some e
fault_here f n m k c before e l h =
    fault_step f n m k c before l ∙ ap (λ (o : Option Refusal). first_no o (triples_fault n m (k + 1) (Some (f k)) (map f (range_with_len (k + 1) (c - (k + 1)))))) h

pub fault_next : (f : ℕ → Triple) (n m k c : ℕ) (before : Option Triple) → k < c → triple_fault n m k before (f k) ≡ None → triples_fault n m k before (map f (range_with_len k (c - k))) ≡ triples_fault n m (k + 1) (Some (f k)) (map f (range_with_len (k + 1) (c - (k + 1))))
fault_next f n m k c before l h =
    fault_step f n m k c before l ∙ ap (λ (o : Option Refusal). first_no o (triples_fault n m (k + 1) (Some (f k)) (map f (range_with_len (k + 1) (c - (k + 1)))))) h

-- where the questions to the whole file are answered yes, those to its triples are left
pub fault_begin : (xs : List ℕ) (n m : ℕ) → length xs % 12 ≡ 0 → n ≤ 2048 → m ≤ 64 → length xs / 12 ≤ 65536 → triples_fault n m 0 None (map (triple_at xs) (range_with_len 0 (length xs / 12 - 0))) ≡ register_fault xs n m
fault_begin xs n m whole few narrow short =
    let q : length xs / 12 - 0 ≡ length xs / 12 = omega arith in
    ap (λ (z : ℕ). triples_fault n m 0 None (map (triple_at xs) (range_with_len 0 z))) q
    ∙ ap (triples_fault n m 0 None) (sym (triples_by_number xs))
    ∙ sym (cond-true _ _ _ (eq-eqb _ _ whole) ∙ cond-true _ _ _ (le-leb _ _ few) ∙ cond-true _ _ _ (le-leb _ _ narrow) ∙ cond-true _ _ _ (le-leb _ _ short))

-- a triple that passes
pub record Passes (n m : ℕ) (before : Option Triple) (t : Triple) : Type 0 where
  pub subject_below : t.subject < n
  pub property_below : t.property < m
  pub after : follows before t ≡ true

passes : (n m k : ℕ) (before : Option Triple) (t : Triple) → is_some (triple_fault n m k before t) ≡ false → Passes n m before t
passes n m k before t h =
    let s = answered (nat_lt t.subject n) _ (5, k) h in
    let p = answered (nat_lt t.property m) _ (6, k) s.1 in
    record {
      subject_below = ltb-true _ _ s.0;
      property_below = ltb-true _ _ p.0;
      after = (answered (follows before t) None (7, k) p.1).0;
    }

first_passes : (f : ℕ → Triple) (n m c k : ℕ) (before : Option Triple) → 0 < c → is_some (triples_fault n m k before (map f (range_with_len k c))) ≡ false → Passes n m before (f k)
first_passes f n m zero k before l h = absurd (omega arith)
first_passes f n m (suc c) k before l h = passes n m k before (f k) (both_answered _ _ h).0

-- every triple of a file that passes, with the one before it
each_passes : (f : ℕ → Triple) (n m c k : ℕ) (before : Option Triple) → is_some (triples_fault n m k before (map f (range_with_len k c))) ≡ false → (i : ℕ) → i + 1 < c → Passes n m (Some (f (k + i))) (f (k + i + 1))
each_passes f n m zero k before h i l = absurd (omega arith)
each_passes f n m (suc c) k before h i l =
    let rest = (both_answered (triple_fault n m k before (f k)) _ h).1 in
    let P : ℕ → Type 0 = λ j. Passes n m (Some (f j)) (f (j + 1)) in
    ⊎_elim
    (λ (z : i ≡ 0). let q : k ≡ k + i = omega arith in subst P q (first_passes f n m c (k + 1) (Some (f k)) (omega arith) rest))
    (λ (z : i ≡ 0 → ⊥). let q : k + 1 + (i - 1) ≡ k + i = omega arith in subst P q (each_passes f n m c (k + 1) (Some (f k)) rest (i - 1) (omega arith)))
    (cases_eq i 0)

-- what a register file keeps
pub record Allowed (xs : List ℕ) (n m : ℕ) : Type 0 where
  pub few : n ≤ 2048
  pub narrow : m ≤ 64
  pub short : length xs / 12 ≤ 65536
  pub inside : (k : ℕ) → k < length xs / 12 → ((triple_at xs k).subject < n) × ((triple_at xs k).property < m)
  pub after : (k : ℕ) → k + 1 < length xs / 12 → comes_before (triple_at xs k) (triple_at xs (k + 1)) ≡ true

pub allowed_from : (xs : List ℕ) (n m : ℕ) → is_some (register_fault xs n m) ≡ false → Allowed xs n m
allowed_from xs n m h =
    let f : ℕ → Triple = triple_at xs in
    let c = length xs / 12 in
    let a = answered (length xs % 12 == 0) _ (1, 0) h in
    let b = answered (nat_le n 2048) _ (2, 0) a.1 in
    let d = answered (nat_le m 64) _ (3, 0) b.1 in
    let e = answered (nat_le (length xs / 12) 65536) _ (4, 0) d.1 in
    let all : is_some (triples_fault n m 0 None (map f (range_with_len 0 c))) ≡ false =
    ap (λ (ts : List Triple). is_some (triples_fault n m 0 None ts)) (sym (triples_by_number xs)) ∙ e.1
    in
    let next : (k : ℕ) → k + 1 < c → Passes n m (Some (f k)) (f (k + 1)) = λ k l.
    let q : 0 + k ≡ k = omega arith in
    let P : ℕ → Type 0 = λ j. Passes n m (Some (f j)) (f (j + 1)) in
    subst P q (each_passes f n m c 0 None all k l)
    in
    record {
      few = leb-true _ _ b.0;
      narrow = leb-true _ _ d.0;
      short = leb-true _ _ e.0;
      inside = λ k l.
          let Q : ℕ → Type 0 = λ j. ((f j).subject < n) × ((f j).property < m) in
          ⊎_elim
          (λ (z : k ≡ 0). let p = first_passes f n m c 0 None (omega arith) all in subst Q (sym z) (p.subject_below, p.property_below))
          (λ (z : k ≡ 0 → ⊥).
          let q : k - 1 + 1 ≡ k = omega arith in
          let p = next (k - 1) (omega arith) in
          subst Q q (p.subject_below, p.property_below))
          (cases_eq k 0);
      after = λ k l. (next k l).after;
    }
