use Rattle.std.proofs.Common.{◌≡◌, ℕ, ◌+◌, ◌*◌, ◌^◌, ◌≤◌, Bool, true, false, cond, List, ◌++◌, length, take, drop, is_ok, Ok, Err, Result, sym, refl, ap, ◌∙◌, ⊎_elim, arith, length-append, length-drop}
use Rattle.std.proofs.lemmas.List.{take_at, drop_at, drop-drop, take-append-drop, length-take-le, get_or-take, get_or-drop, get_or_past, length-take}
use Rattle.std.proofs.lemmas.Bool.{cond-true, le-leb, leb-true, cases_lt}
use Rattle.records.specs.Fields.{bytes_of, fields_in}
use Rattle.records.specs.Reading.{lies_in, record_at, read_answer}
use Rattle.records.specs.Refusals.{Refusal, told}
use Rattle.records.specs.Trips.{read_back_answer, write_back_answer}
use Rattle.records.specs.Writing.{has_space, put_at, write_answer}
use Rattle.records.proofs.Bytes.{Below, fields_in_bytes, length_bytes_of, bytes_of_fields, length_fields_in, fields_in_below}

-- a call whose two questions, asked in order, give this answer got two yeses
pub both_yes : {A : Type 0} (p q : Bool) (a b : A) (e f : Refusal) → Ok a ≡ cond p (cond q (Ok b) (Err e)) (Err f) → (p ≡ true) × (q ≡ true) × (a ≡ b)
both_yes true true a b e f h = (refl, refl, cc)
both_yes true false a b e f h = let z : ◌≡◌ {A = ℕ} 0 1 = cc in absurd (omega arith)
both_yes false q a b e f h = let z : ◌≡◌ {A = ℕ} 0 1 = cc in absurd (omega arith)

-- an answer that is told as a result is that result
pub told_ok : {A E : Type 0} (refusal : E → Refusal) (r : Result A E) (a : A) → told refusal r ≡ Ok a → r ≡ Ok a
told_ok refusal (Ok b) a h = cc
told_ok refusal (Err e) a h = let z : ◌≡◌ {A = ℕ} 0 1 = cc in absurd (omega arith)

pub write_yes : (allowed : Bool) (s at : ℕ) (xs : List ℕ) → at + s ≤ length xs → allowed ≡ true → Ok tt ≡ write_answer allowed s at xs
write_yes allowed s at xs l a =
    sym (cond-true (has_space s at xs) (cond allowed (Ok tt) (Err (30, 0))) (Err (24, 0)) (le-leb (at + s) (length xs) l) ∙ cond-true allowed (Ok tt) (Err (30, 0)) a)

-- record i of bytes with bs put at its place is bs
pub record_put : (s i : ℕ) (bs xs : List ℕ) → length bs ≡ s → i * s + s ≤ length xs → (i * s + s ≤ length (put_at (i * s) bs xs)) × (record_at s i (put_at (i * s) bs xs) ≡ bs)
record_put s i bs xs l h =
    let at = i * s in
    let front : length (take at xs) ≡ at = length-take-le at xs (omega arith) in
    let whole : length (put_at at bs xs) ≡ length (take at xs) + (length bs + length (drop (at + length bs) xs)) =
    length-append (take at xs) (bs ++ drop (at + length bs) xs) ∙ ap (λ (n : ℕ). length (take at xs) + n) (length-append bs (drop (at + length bs) xs))
    in (
      omega arith,
      ap (take s) (drop_at (take at xs) (bs ++ drop (at + length bs) xs) at front) ∙ take_at bs (drop (at + length bs) xs) s l,
    )

-- and bytes with their own record i put at its place stay as they are
pub put_own : (s i : ℕ) (xs : List ℕ) → i * s + s ≤ length xs → put_at (i * s) (record_at s i xs) xs ≡ xs
put_own s i xs h =
    let at = i * s in
    let n : length (record_at s i xs) ≡ s = length-take-le s (drop at xs) (omega (arith, length-drop at xs)) in
    ap (λ (k : ℕ). take at xs ++ (record_at s i xs ++ drop (at + k) xs)) n
    ∙ ap (λ (v : List ℕ). take at xs ++ (record_at s i xs ++ v)) (sym (drop-drop s at xs))
    ∙ ap (λ (v : List ℕ). take at xs ++ v) (take-append-drop s (drop at xs))
    ∙ take-append-drop at xs

-- what was written reads back
pub reads_written : {B : Type 0} (made : List ℕ → B) (fields : B → List ℕ) (allowed : B → Bool) (s i : ℕ) (b : B) (xs : List ℕ) {ys : List ℕ} → 4 * length (fields b) ≡ s → made (fields b) ≡ b → i * s + s ≤ length xs → allowed b ≡ true → ys ≡ put_at (i * s) (bytes_of (fields b)) xs → read_answer made allowed s ys i ≡ Ok b
reads_written made fields allowed s i b xs {ys} whole carried h a e =
    let p = record_put s i (bytes_of (fields b)) xs (length_bytes_of (fields b) ∙ whole) h in
    let lies : lies_in s i ys ≡ true = le-leb (i * s + s) (length ys) (omega (arith, p.0, ap length e)) in
    let back : made (fields_in (record_at s i ys)) ≡ b =
    ap (λ (v : List ℕ). made (fields_in (record_at s i v))) e ∙ ap (λ (v : List ℕ). made (fields_in v)) p.1 ∙ ap made (fields_in_bytes (fields b)) ∙ carried
    in
    cond-true (lies_in s i ys) (cond (allowed (made (fields_in (record_at s i ys)))) (Ok (made (fields_in (record_at s i ys)))) (Err (30, i))) (Err (29, i)) lies
    ∙ cond-true (allowed (made (fields_in (record_at s i ys)))) (Ok (made (fields_in (record_at s i ys)))) (Err (30, i)) (ap allowed back ∙ a)
    ∙ ap Ok back

pub record_below : (s i : ℕ) (xs : List ℕ) → Below 256 xs → Below 256 (record_at s i xs)
record_below s i xs below j =
    ⊎_elim
    (λ l. let e = get_or-take s (drop (i * s) xs) j 0 l ∙ get_or-drop (i * s) xs j 0 in omega (arith, e, below (i * s + j)))
    (λ l. let e = get_or_past (record_at s i xs) j 0 (omega (arith, length-take s (drop (i * s) xs))) in omega (arith, e))
    (cases_lt j s)

-- what was read has the bytes that it was read from
pub bytes_read : {B : Type 0} (made : List ℕ → B) (fields : B → List ℕ) (allowed : B → Bool) (s i : ℕ) (b : B) (xs : List ℕ) → 4 * length (fields b) ≡ s → ((fs : List ℕ) → 4 * length fs ≡ s → Below (2 ^ 32) fs → fields (made fs) ≡ fs) → Below 256 xs → Ok b ≡ read_answer made allowed s xs i → (i * s + s ≤ length xs) × (allowed b ≡ true) × (bytes_of (fields b) ≡ record_at s i xs)
bytes_read {B} made fields allowed s i b xs whole kept below e =
    let bs = record_at s i xs in
    let fs = fields_in bs in
    let y = both_yes (lies_in s i xs) (allowed (made fs)) b (made fs) (30, i) (29, i) e in
    let h : i * s + s ≤ length xs = leb-true (i * s + s) (length xs) y.0 in
    let n : length bs ≡ 4 * length (fields b) = length-take-le s (drop (i * s) xs) (omega (arith, length-drop (i * s) xs)) ∙ sym whole in
    let small : Below 256 bs = record_below s i xs below in
    let l : 4 * length fs ≡ s = ap (λ (k : ℕ). 4 * k) (length_fields_in (length (fields b)) bs n) ∙ whole in (
      h,
      ap allowed y.2 ∙ y.1,
      ap (λ (v : B). bytes_of (fields v)) y.2 ∙ ap bytes_of (kept fs l (fields_in_below bs small)) ∙ bytes_of_fields (length (fields b)) bs n small,
    )

-- a body written as record i, at the offset that the code found, where r is the size as the code has it
pub read_back : {B : Type 0} (made : List ℕ → B) (fields : B → List ℕ) (allowed : B → Bool) (s i at r : ℕ) (b : B) (xs ys : List ℕ) (u : Unit {0}) → 4 * length (fields b) ≡ s → made (fields b) ≡ b → r ≡ s → at ≡ i * r → Ok u ≡ write_answer (allowed b) s at xs → ys ≡ put_at at (bytes_of (fields b)) xs → (read_answer made allowed s ys i ≡ Ok b) × (Ok b ≡ read_back_answer allowed s i b xs) × (ys ≡ put_at (i * s) (bytes_of (fields b)) xs)
read_back made fields allowed s i at r b xs ys u whole carried e p w after =
    let q : at ≡ i * s = p ∙ ap (λ (n : ℕ). i * n) e in
    let y = both_yes (has_space s at xs) (allowed b) u tt (30, 0) (24, 0) w in
    let h : i * s + s ≤ length xs = omega (arith, leb-true (at + s) (length xs) y.0) in
    let put : ys ≡ put_at (i * s) (bytes_of (fields b)) xs = after ∙ ap (λ (n : ℕ). put_at n (bytes_of (fields b)) xs) q in (
      reads_written made fields allowed s i b xs whole carried h y.1 put,
      sym (cond-true (lies_in s i xs) (cond (allowed b) (Ok b) (Err (30, 0))) (Err (24, 0)) (le-leb (i * s + s) (length xs) h) ∙ cond-true (allowed b) (Ok b) (Err (30, 0)) y.1),
      put,
    )

-- record i of xs, read and written as record i of ys
pub write_back : {B : Type 0} (made : List ℕ → B) (fields : B → List ℕ) (allowed : B → Bool) (s i r : ℕ) (b : B) (xs ys zs : List ℕ) (u : Unit {0}) → 4 * length (fields b) ≡ s → ((fs : List ℕ) → 4 * length fs ≡ s → Below (2 ^ 32) fs → fields (made fs) ≡ fs) → Below 256 xs → r ≡ s → Ok b ≡ read_answer made allowed s xs i → Ok u ≡ write_answer (allowed b) s (i * r) ys → zs ≡ put_at (i * r) (bytes_of (fields b)) ys → (Ok tt ≡ write_back_answer (read_answer made allowed s xs i) s i ys) × (zs ≡ put_at (i * s) (record_at s i xs) ys) × (ys ≡ xs → (zs ≡ xs) × (true ≡ is_ok (read_answer made allowed s xs i)))
write_back made fields allowed s i r b xs ys zs u whole kept below e read w after =
    let q : i * r ≡ i * s = ap (λ (n : ℕ). i * n) e in
    let y = both_yes (has_space s (i * r) ys) (allowed b) u tt (30, 0) (24, 0) w in
    let h : i * s + s ≤ length ys = omega (arith, leb-true (i * r + s) (length ys) y.0) in
    let x = bytes_read made fields allowed s i b xs whole kept below read in
    let put : zs ≡ put_at (i * s) (record_at s i xs) ys =
    after ∙ ap (λ (n : ℕ). put_at n (bytes_of (fields b)) ys) q ∙ ap (λ (v : List ℕ). put_at (i * s) v ys) x.2
    in (
      sym (cond-true (lies_in s i ys) (Ok tt) (Err (24, 0)) (le-leb (i * s + s) (length ys) h)) ∙ ap (λ (a : Result _ Refusal). write_back_answer a s i ys) read,
      put,
      λ same. (put ∙ ap (λ (v : List ℕ). put_at (i * s) (record_at s i xs) v) same ∙ put_own s i xs x.0, ap is_ok read),
    )
