use Rattle.std.proofs.Common.{◌≡◌, ℕ, ◌+◌, ◌*◌, ◌/◌, ◌<◌, ◌≤◌, Bool, true, false, cond, List, [], ◌∷◌, ◌++◌, map, length, drop, Some, None, Ok, Err, Option, Result, refl, ap, ◌∙◌, zero-add, arith}
use Rattle.std.proofs.lemmas.List.FromFn.{length-map-range_with_len, get_or-map-range_with_len, map-range_with_len_more}
use Rattle.std.proofs.lemmas.List.{drop_more, drop_all}
use Rattle.std.proofs.lemmas.Bool.{cond-true, cond-false, le-leb}
use Rattle.std.specs.List.{range_with_len}
use Rattle.records.specs.Fields.{fields_in}
use Rattle.records.specs.Questions.{first_no}
use Rattle.records.specs.Reading.{record_at, lies_in, bodies, read_answer}
use Rattle.records.specs.Refusals.{Refusal}
use Rattle.records.proofs.Places.{lies_from}
use Rattle.report.specs.Files.{body_fault, length_fault, file_fault}

abbrev pub body_at : {B : Type 0} → (List ℕ → B) → ℕ → List ℕ → ℕ → B
body_at made size xs i = made (fields_in (record_at size i xs))

-- what reading record i gives is told by what its body is
pub read_within : {B : Type 0} (made : List ℕ → B) (allowed : B → Bool) (size : ℕ) (xs : List ℕ) (i : ℕ) → 0 < size → i < length xs / size → read_answer made allowed size xs i ≡ cond (allowed (body_at made size xs i)) (Ok (body_at made size xs i)) (Err (30, i))
read_within made allowed size xs i pos h =
    cond-true (lies_in size i xs) (cond (allowed (body_at made size xs i)) (Ok (body_at made size xs i)) (Err (30, i))) (Err (29, i)) (le-leb (i * size + size) (length xs) (lies_from i (length xs) size pos h))

body_from : {B : Type 0} (ok : Bool) (b x : B) (i : ℕ) → ◌≡◌ {A = Result B Refusal} (Ok x) (cond ok (Ok b) (Err (30, i))) → (ok ≡ true) × (x ≡ b)
body_from true b x i e = (refl, cc)
body_from false b x i e = let z : ◌≡◌ {A = ℕ} 0 1 = cc in absurd (omega arith)

-- a body that was read is the one of its number, and allowed
pub body_read : {B : Type 0} (made : List ℕ → B) (allowed : B → Bool) (size : ℕ) (xs : List ℕ) (i : ℕ) (x : B) → 0 < size → i < length xs / size → Ok x ≡ read_answer made allowed size xs i → (allowed (body_at made size xs i) ≡ true) × (x ≡ body_at made size xs i)
body_read made allowed size xs i x pos h e =
    body_from (allowed (body_at made size xs i)) (body_at made size xs i) x i (e ∙ read_within made allowed size xs i pos h)

refused_from : {B : Type 0} (ok : Bool) (b : B) (i : ℕ) (e : Refusal) → ◌≡◌ {A = Result B Refusal} (Err e) (cond ok (Ok b) (Err (30, i))) → (ok ≡ false) × (◌≡◌ {A = Refusal} e (30, i))
refused_from false b i f e = (refl, cc)
refused_from true b i f e = let z : ◌≡◌ {A = ℕ} 0 1 = cc in absurd (omega arith)

-- a body that was not read is not allowed, and its number is the place
pub body_refused : {B : Type 0} (made : List ℕ → B) (allowed : B → Bool) (size : ℕ) (xs : List ℕ) (i : ℕ) (e : Refusal) → 0 < size → i < length xs / size → Err e ≡ read_answer made allowed size xs i → (allowed (body_at made size xs i) ≡ false) × (◌≡◌ {A = Refusal} e (30, i))
body_refused made allowed size xs i f pos h e =
    refused_from (allowed (body_at made size xs i)) (body_at made size xs i) i f (e ∙ read_within made allowed size xs i pos h)

-- the bodies from number i on are body i and those behind it
pub drop_bodies : {B : Type 0} (made : List ℕ → B) (size : ℕ) (xs : List ℕ) (i : ℕ) → i < length xs / size → drop i (bodies made size xs) ≡ body_at made size xs i ∷ drop (i + 1) (bodies made size xs)
drop_bodies made size xs i h =
    let f = body_at made size xs in
    let n = length xs / size in
    drop_more (bodies made size xs) i (f i) (omega (arith, length-map-range_with_len f 0 n))
    ∙ ap (λ b. b ∷ drop (i + 1) (bodies made size xs)) (get_or-map-range_with_len f 0 n i i (f i) h (zero-add i))

-- one more body behind the first i
pub body_push : {B : Type 0} (made : List ℕ → B) (size : ℕ) (xs : List ℕ) (i : ℕ) {bs : List B} {b : B} → bs ≡ map (body_at made size xs) (range_with_len 0 i) → b ≡ body_at made size xs i → bs ++ b ∷ [] ≡ map (body_at made size xs) (range_with_len 0 (i + 1))
body_push made size xs i e f =
    let more = map-range_with_len_more (body_at made size xs) 0 i i (zero-add i) in
    cc

pub fault_more : {B : Type 0} (made : List ℕ → B) (allowed : B → Bool) (size : ℕ) (xs : List ℕ) (i : ℕ) → i < length xs / size → allowed (body_at made size xs i) ≡ true → body_fault allowed i (drop i (bodies made size xs)) ≡ body_fault allowed (i + 1) (drop (i + 1) (bodies made size xs))
fault_more made allowed size xs i h so =
    ap (body_fault allowed i) (drop_bodies made size xs i h)
    ∙ cond-true (allowed (body_at made size xs i)) (body_fault allowed (i + 1) (drop (i + 1) (bodies made size xs))) (Some (30, i)) so

pub fault_here : {B : Type 0} (made : List ℕ → B) (allowed : B → Bool) (size : ℕ) (xs : List ℕ) (i : ℕ) → i < length xs / size → allowed (body_at made size xs i) ≡ false → body_fault allowed i (drop i (bodies made size xs)) ≡ Some (30, i)
fault_here made allowed size xs i h not =
    ap (body_fault allowed i) (drop_bodies made size xs i h)
    ∙ cond-false (allowed (body_at made size xs i)) (body_fault allowed (i + 1) (drop (i + 1) (bodies made size xs))) (Some (30, i)) not

pub fault_none : {B : Type 0} (made : List ℕ → B) (allowed : B → Bool) (size : ℕ) (xs : List ℕ) (i : ℕ) → length xs / size ≤ i → body_fault allowed i (drop i (bodies made size xs)) ≡ None
fault_none made allowed size xs i h =
    ap (body_fault allowed i) (drop_all i (bodies made size xs) (omega (arith, length-map-range_with_len (body_at made size xs) 0 (length xs / size))))

-- a file of a right length is refused for a record only
pub file_passes : {B : Type 0} (made : List ℕ → B) (allowed : B → Bool) (size : ℕ) (xs : List ℕ) → length_fault size xs ≡ None → file_fault made allowed size xs ≡ body_fault allowed 0 (bodies made size xs)
file_passes made allowed size xs e = ap (λ (o : Option Refusal). first_no o (body_fault allowed 0 (bodies made size xs))) e
