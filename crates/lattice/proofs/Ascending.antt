-- The numbers that pass a test, in ascending order.
use Rattle.std.proofs.Common.{◌≡◌, ℕ, zero, suc, ◌+◌, ◌-◌, ◌<◌, ◌≤◌, Bool, true, false, cond, List, ◌∷◌, length, get_or, Some, None, filter, sym, refl, ap, ◌∙◌, ⊎_elim, arith}
use Rattle.std.specs.List.{range_with_len, ContainsAt as Has, AllByRecursion}
use Rattle.std.proofs.ByRecursion.{All-get_or, all_kept_by, kept_by_passes}
use Rattle.std.proofs.lemmas.Bool.{false≢true, both_ways, cases_eq, cases_lt, cases_Bool}
use Rattle.lattice.specs.Candidates.{last_of}
use Rattle.lattice.specs.Least.{first, least_above, LeastAbove, NoneAbove}
use Rattle.lattice.specs.Sets.{range}
use Rattle.lattice.proofs.Filters.{has_later}

-- The first number kept, from a on.
first_yes : (test : ℕ → Bool) (a n : ℕ) → test a ≡ true → first (filter test (range_with_len a (suc n))) ≡ Some a
first_yes test a n e = ap (λ (b : Bool). first (cond b (a ∷ filter test (range_with_len (a + 1) n)) (filter test (range_with_len (a + 1) n)))) e

first_no : (test : ℕ → Bool) (a n : ℕ) → test a ≡ false → first (filter test (range_with_len a (suc n))) ≡ first (filter test (range_with_len (a + 1) n))
first_no test a n e = ap (λ (b : Bool). first (cond b (a ∷ filter test (range_with_len (a + 1) n)) (filter test (range_with_len (a + 1) n)))) e

first_least : (test : ℕ → Bool) (a n z : ℕ) → test z ≡ true → a ≤ z → z < a + n → ((y : ℕ) → y < a + n → test y ≡ true → a ≤ y → z ≤ y) → first (filter test (range_with_len a n)) ≡ Some z
first_least test a zero z e l h f = absurd (omega arith)
first_least test a (suc n) z e l h f =
    ⊎_elim (λ q. let up = f a (omega arith) q (omega arith) in let same : a ≡ z = omega arith in first_yes test a n q ∙ ap (λ (v : ℕ). Some v) same)
    (λ q.
    let other : a ≡ z → ⊥ = λ s. both_ways (test a) q (ap test s ∙ e) in
    first_no test a n q ∙ first_least test (a + 1) n z e (omega arith) (omega arith) (λ y b p m. f y (omega arith) p (omega arith)))
    (cases_Bool (test a))

first_none : (test : ℕ → Bool) (a n : ℕ) → ((y : ℕ) → y < a + n → test y ≡ true → a ≤ y → ⊥) → first (filter test (range_with_len a n)) ≡ None
first_none test a zero f = refl
first_none test a (suc n) f =
    ⊎_elim (λ q. absurd (f a (omega arith) q (omega arith)))
    (λ q. first_no test a n q ∙ first_none test (a + 1) n (λ y b p m. f y (omega arith) p (omega arith))) (cases_Bool (test a))

-- The least number above x is what `least_above` finds.
pub least_found : (test : ℕ → Bool) (n x z : ℕ) → LeastAbove test n x z → least_above test n x ≡ Some z
unfolding least_above
least_found test n x z l =
    first_least test (x + 1) (n - (x + 1)) z l.passes (omega (arith, l.greater)) (omega (arith, l.within, l.greater)) (λ y b p m. l.least y (omega arith) p (omega arith))

pub none_found : (test : ℕ → Bool) (n x : ℕ) → NoneAbove test n x → least_above test n x ≡ None
unfolding least_above NoneAbove
none_found test n x f = first_none test (x + 1) (n - (x + 1)) (λ y b p m. f y (omega arith) p (omega arith))

-- And what `least_above` finds is the least number above x.
first_is_least : (test : ℕ → Bool) (a n z : ℕ) → first (filter test (range_with_len a n)) ≡ Some z → (test z ≡ true) × (a ≤ z) × (z < a + n) × ((y : ℕ) → y < a + n → test y ≡ true → a ≤ y → z ≤ y)
first_is_least test a zero z e = let no : ◌≡◌ {A = ℕ} 0 1 = cc in absurd (omega arith)
first_is_least test a (suc n) z e =
    ⊎_elim
    (λ q. let some = sym (first_yes test a n q) ∙ e in let same : a ≡ z = cc in (ap test (sym same) ∙ q, omega arith, omega arith, λ y b p m. omega arith))
    (λ q.
    let more = first_is_least test (a + 1) n z (sym (first_no test a n q) ∙ e) in (
      more.0,
      omega (arith, more.1),
      omega (arith, more.2),
      λ y b p m. let other : a ≡ y → ⊥ = λ s. both_ways (test a) q (ap test s ∙ p) in more.3 y (omega arith) p (omega arith),
    ))
    (cases_Bool (test a))

first_is_none : (test : ℕ → Bool) (a n : ℕ) → first (filter test (range_with_len a n)) ≡ None → (y : ℕ) → y < a + n → test y ≡ true → a ≤ y → ⊥
first_is_none test a zero e y b p m = omega arith
first_is_none test a (suc n) e y b p m =
    ⊎_elim (λ q. let some = sym (first_yes test a n q) ∙ e in let no : ◌≡◌ {A = ℕ} 0 1 = cc in omega arith)
    (λ q.
    let other : a ≡ y → ⊥ = λ s. both_ways (test a) q (ap test s ∙ p) in
    first_is_none test (a + 1) n (sym (first_no test a n q) ∙ e) y (omega arith) p (omega arith))
    (cases_Bool (test a))

pub found_least : (test : ℕ → Bool) (n x z : ℕ) → least_above test n x ≡ Some z → LeastAbove test n x z
unfolding least_above
found_least test n x z e =
    let f = first_is_least test (x + 1) (n - (x + 1)) z e in
    record { passes = f.0; within = omega (arith, f.1, f.2); greater = omega (arith, f.1); least = λ y b p m. f.3 y (omega arith) p (omega arith) }

pub found_none : (test : ℕ → Bool) (n x : ℕ) → least_above test n x ≡ None → NoneAbove test n x
unfolding least_above NoneAbove
found_none test n x e y b p m = first_is_none test (x + 1) (n - (x + 1)) e y (omega arith) p (omega arith)

counted_within : (low high a n : ℕ) → low ≤ a → a + n ≤ high → AllByRecursion (λ y. (low ≤ y) × (y < high)) (range_with_len a n)
counted_within low high a zero h l = tt
counted_within low high a (suc n) h l = ((h, omega arith), counted_within low high (a + 1) n (omega arith) (omega arith))

-- A number that passes is in the list.
kept_has : (test : ℕ → Bool) (a n y : ℕ) → a ≤ y → y < a + n → test y ≡ true → Has (filter test (range_with_len a n)) y
kept_has test a zero y h l e = absurd (omega arith)
kept_has test a (suc n) y h l e =
    ⊎_elim (λ q. here (test a) (ap test q ∙ e) q) (λ q. later (test a) (kept_has test (a + 1) n y (omega arith) (omega arith) e)) (cases_eq a y)
  where
    here : (b : Bool) → b ≡ true → a ≡ y → Has (cond b (a ∷ filter test (range_with_len (a + 1) n)) (filter test (range_with_len (a + 1) n))) y
    here true e q = (0, omega arith, λ d. q)
    here false e q = absurd (false≢true e)

    later : (b : Bool) → Has (filter test (range_with_len (a + 1) n)) y → Has (cond b (a ∷ filter test (range_with_len (a + 1) n)) (filter test (range_with_len (a + 1) n))) y
    later true m = has_later a y (filter test (range_with_len (a + 1) n)) m
    later false m = m

-- The list ascends.
pub kept_ascends : (test : ℕ → Bool) (a n i j : ℕ) → i < j → j < length (filter test (range_with_len a n)) → get_or (filter test (range_with_len a n)) i 0 < get_or (filter test (range_with_len a n)) j 0
kept_ascends test a zero i j h l = absurd (omega arith)
kept_ascends test a (suc n) i j h l = go (test a) i j h l (kept_ascends test (a + 1) n)
  where
    rest : List ℕ
    rest = filter test (range_with_len (a + 1) n)

    go : (b : Bool) (i j : ℕ) → i < j → j < length (cond b (a ∷ rest) rest) → ((i j : ℕ) → i < j → j < length rest → get_or rest i 0 < get_or rest j 0) → get_or (cond b (a ∷ rest) rest) i 0 < get_or (cond b (a ∷ rest) rest) j 0
    go false i j h l more = more i j h l
    go true zero zero h l more = absurd (omega arith)
    go true zero (suc j) h l more =
        let inside : AllByRecursion (λ y. (a + 1 ≤ y) × (y < a + 1 + n)) rest =
        all_kept_by test (λ y. (a + 1 ≤ y) × (y < a + 1 + n)) (range_with_len (a + 1) n) (counted_within (a + 1) (a + 1 + n) (a + 1) n (omega arith) (omega arith))
        in
        let there = All-get_or (λ y. (a + 1 ≤ y) × (y < a + 1 + n)) rest j 0 (omega arith) inside in
        omega arith
    go true (suc i) zero h l more = absurd (omega arith)
    go true (suc i) (suc j) h l more = more i j (omega arith) (omega arith)

get_or_passes : (test : ℕ → Bool) (size n : ℕ) → n < length (filter test (range size)) → test (get_or (filter test (range size)) n 0) ≡ true
get_or_passes test size n h = All-get_or (λ y. test y ≡ true) (filter test (range size)) n 0 h (kept_by_passes test (range size))

pub get_or_within : (test : ℕ → Bool) (size n : ℕ) → n < length (filter test (range size)) → get_or (filter test (range size)) n 0 < size
get_or_within test size n h =
    (All-get_or (λ y. (0 ≤ y) × (y < size)) (filter test (range size)) n 0 h
    (all_kept_by test (λ y. (0 ≤ y) × (y < size)) (range size) (counted_within 0 size 0 size (omega arith) (omega arith)))
    ).1

-- Where 0 does not pass, the last of the first n is below the next.
pub last_below_next : (test : ℕ → Bool) (size n : ℕ) → test 0 ≡ false → n < length (filter test (range size)) → last_of (filter test (range size)) n < get_or (filter test (range size)) n 0
last_below_next test size zero z h =
    let other : get_or (filter test (range size)) 0 0 ≡ 0 → ⊥ = λ e. both_ways (test 0) z (ap test (sym e) ∙ get_or_passes test size 0 h) in
    omega arith
last_below_next test size (suc n) z h = kept_ascends test 0 size n (suc n) (omega arith) h

-- What stands among the first n is at most the last of them.
at_most_last : (test : ℕ → Bool) (size n i : ℕ) → i < n → n ≤ length (filter test (range size)) → get_or (filter test (range size)) i 0 ≤ last_of (filter test (range size)) n
at_most_last test size zero i h l = absurd (omega arith)
at_most_last test size (suc n) i h l =
    ⊎_elim (λ e. let s = ap (λ (v : ℕ). get_or (filter test (range size)) v 0) e in omega arith)
    (λ e. let s = kept_ascends test 0 size i n (omega arith) (omega arith) in omega arith) (cases_eq i n)

-- The least number that passes above the last of the first n is the next of the list.
pub least_is_next : (test : ℕ → Bool) (size n z : ℕ) → test 0 ≡ false → n ≤ length (filter test (range size)) → LeastAbove test size (last_of (filter test (range size)) n) z → (n < length (filter test (range size))) × (get_or (filter test (range size)) n 0 ≡ z)
least_is_next test size n z none h least =
    let m = kept_has test 0 size z (omega arith) (omega (arith, least.within)) least.passes in
    let at = m.2 0 in
    ⊎_elim (λ l. let s = at_most_last test size n m.0 l h in absurd (omega (arith, least.greater)))
    (λ l.
    let short : n < length (filter test (range size)) = omega (arith, m.1) in
    let up = least.least (get_or (filter test (range size)) n 0) (get_or_within test size n short) (get_or_passes test size n short) (last_below_next test size n none short) in
    ⊎_elim (λ e. (short, ap (λ (v : ℕ). get_or (filter test (range size)) v 0) e ∙ at))
    (λ e. let s = kept_ascends test 0 size n m.0 (omega arith) m.1 in (short, omega arith)) (cases_eq n m.0))
    (cases_lt m.0 n)

-- Where none passes above the last of the first n, they are all.
pub none_is_end : (test : ℕ → Bool) (size n : ℕ) → test 0 ≡ false → n ≤ length (filter test (range size)) → NoneAbove test size (last_of (filter test (range size)) n) → n ≡ length (filter test (range size))
unfolding NoneAbove
none_is_end test size n none h f =
    ⊎_elim (λ l. absurd (f (get_or (filter test (range size)) n 0) (get_or_within test size n l) (get_or_passes test size n l) (last_below_next test size n none l)))
    (λ l. omega arith) (cases_lt n (length (filter test (range size))))
