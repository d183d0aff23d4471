use Rattle.std.proofs.Common.{◌≡◌, ℕ, zero, suc, ◌+◌, ◌-◌, ◌*◌, ◌/◌, ◌%◌, ◌^◌, ◌<◌, ◌≤◌, List, [], ◌∷◌, ◌++◌, length, get_or, take, drop, sym, refl, ap, ◌∙◌, arith}
use Rattle.std.proofs.lemmas.List.{take_rest}
use Rattle.records.specs.Fields.{four, bytes_of, field_of, fields_in}

-- every number of a list is below the bound
abbrev pub Below : ℕ → List ℕ → Type 0
Below bound xs = (i : ℕ) → get_or xs i 0 < bound

-- four bytes make a field, and a field is four bytes
pub four_field : (a b c d : ℕ) → a < 256 → b < 256 → c < 256 → four (field_of a b c d) ≡ a ∷ b ∷ c ∷ d ∷ []
four_field a b c d la lb lc =
    let n : ℕ = field_of a b c d in
    let q1 : n / 256 ≡ b + c * 256 + d * 65536 = omega arith in
    let q2 : n / 65536 ≡ c + d * 256 = omega arith in
    let e0 : n % 256 ≡ a = omega arith in
    let e1 : n / 256 % 256 ≡ b = rw q1 (omega arith) in
    let e2 : n / 65536 % 256 ≡ c = rw q2 (omega arith) in
    let e3 : n / 16777216 ≡ d = omega arith in
    cc

pub field_four : (n : ℕ) → field_of (n % 256) (n / 256 % 256) (n / 65536 % 256) (n / 16777216) ≡ n
field_four n = omega arith

-- fields come back from their bytes
pub fields_in_bytes : (fs : List ℕ) → fields_in (bytes_of fs) ≡ fs
fields_in_bytes [] = refl
fields_in_bytes (f ∷ fs) =
    let here = field_four f in
    let rest = fields_in_bytes fs in
    cc

pub length_bytes_of : (fs : List ℕ) → length (bytes_of fs) ≡ 4 * length fs
length_bytes_of [] = refl
length_bytes_of (f ∷ fs) = omega (arith, length_bytes_of fs)

-- bytes come back from their fields, where there are whole fields of them
pub bytes_of_fields : (n : ℕ) (xs : List ℕ) → length xs ≡ 4 * n → Below 256 xs → bytes_of (fields_in xs) ≡ xs
bytes_of_fields n [] l h = refl
bytes_of_fields n (a ∷ []) l h = absurd (omega arith)
bytes_of_fields n (a ∷ b ∷ []) l h = absurd (omega arith)
bytes_of_fields n (a ∷ b ∷ c ∷ []) l h = absurd (omega arith)
bytes_of_fields n (a ∷ b ∷ c ∷ d ∷ xs) l h =
    let here = four_field a b c d (h 0) (h 1) (h 2) in
    let rest = bytes_of_fields (n - 1) xs (omega arith) (λ i. h (suc (suc (suc (suc i))))) in
    ap (λ (v : List ℕ). v ++ bytes_of (fields_in xs)) here ∙ ap (λ (v : List ℕ). a ∷ b ∷ c ∷ d ∷ v) rest

pub length_fields_in : (n : ℕ) (xs : List ℕ) → length xs ≡ 4 * n → length (fields_in xs) ≡ n
length_fields_in n [] l = omega arith
length_fields_in n (a ∷ []) l = absurd (omega arith)
length_fields_in n (a ∷ b ∷ []) l = absurd (omega arith)
length_fields_in n (a ∷ b ∷ c ∷ []) l = absurd (omega arith)
length_fields_in n (a ∷ b ∷ c ∷ d ∷ xs) l = omega (arith, length_fields_in (n - 1) xs (omega arith))

pub fields_in_below : (xs : List ℕ) → Below 256 xs → Below (2 ^ 32) (fields_in xs)
fields_in_below [] h i = omega arith
fields_in_below (a ∷ []) h i = omega arith
fields_in_below (a ∷ b ∷ []) h i = omega arith
fields_in_below (a ∷ b ∷ c ∷ []) h i = omega arith
fields_in_below (a ∷ b ∷ c ∷ d ∷ xs) h zero = omega (arith, h 0, h 1, h 2, h 3)
fields_in_below (a ∷ b ∷ c ∷ d ∷ xs) h (suc i) = fields_in_below xs (λ j. h (suc (suc (suc (suc j))))) i

-- what the slice pattern takes apart: the first four bytes and the rest
pub four_and_rest : (xs : List ℕ) → 4 ≤ length xs → xs ≡ get_or xs 0 0 ∷ get_or xs 1 0 ∷ get_or xs 2 0 ∷ get_or xs 3 0 ∷ drop 4 xs
four_and_rest [] h = absurd (omega arith)
four_and_rest (a ∷ []) h = absurd (omega arith)
four_and_rest (a ∷ b ∷ []) h = absurd (omega arith)
four_and_rest (a ∷ b ∷ c ∷ []) h = absurd (omega arith)
four_and_rest (a ∷ b ∷ c ∷ d ∷ xs) h = refl

pub field_taken : (xs : List ℕ) (n : ℕ) → Below 256 xs → 4 ≤ length xs → n ≡ field_of (get_or xs 0 0) (get_or xs 1 0) (get_or xs 2 0) (get_or xs 3 0) → xs ≡ four n ++ take (length xs - 4) (drop 4 xs)
field_taken xs n h l e =
    let f = ap four e ∙ four_field (get_or xs 0 0) (get_or xs 1 0) (get_or xs 2 0) (get_or xs 3 0) (h 0) (h 1) (h 2) in
    four_and_rest xs l
    ∙ ap (λ (v : List ℕ). get_or xs 0 0 ∷ get_or xs 1 0 ∷ get_or xs 2 0 ∷ get_or xs 3 0 ∷ v) (sym (take_rest xs 4))
    ∙ ap (λ (v : List ℕ). v ++ take (length xs - 4) (drop 4 xs)) (sym f)
