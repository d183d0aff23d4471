use Rattle.std.proofs.Common.{◌≡◌, ℕ, ◌+◌, ◌-◌, ◌*◌, ◌/◌, ◌<◌, ◌≤◌, cond, leb, List, [], ◌∷◌, ◌++◌, length, take, drop, Some, None, Option, sym, refl, ap, ◌∙◌, append_assoc, append-nil, mul-le-mul_right, add-mul, one-mul, div-mul-le_self, arith, length-drop, MatchOption}
use native.Mathlib.Nat.{lt-div-mul-add}
use borrow.Rule.Slice.PartMut.{put_mid}
use Rattle.std.proofs.lemmas.List.{take_at, drop_at, drop-drop, take_rest, drop_all}
use Rattle.std.proofs.lemmas.Bool.{cond-true, le-leb}
use Rattle.records.specs.Fields.{four, bytes_of, fields_in}
use Rattle.records.specs.Reading.{record_at}
use Rattle.records.proofs.Bytes.{length_bytes_of}
use Rattle.records.specs.Writing.{put_at}

-- record i lies in n bytes where i is below the quotient, and only there
pub lies_from : (i n s : ℕ) → 0 < s → i < n / s → i * s + s ≤ n
lies_from i n s pos h =
    let a : (i + 1) * s ≤ n / s * s = mul-le-mul_right s (omega arith) in
    omega (arith, a, div-mul-le_self n s, add-mul i 1 s, one-mul s)

pub cut_from : (i n s : ℕ) → 0 < s → n / s ≤ i → n < i * s + s
cut_from i n s pos h =
    let a : n / s * s ≤ i * s = mul-le-mul_right s h in
    let b : n < n / s * s + s = lt-div-mul-add pos in
    omega arith

-- what stands where a list of fields ends and one more is written behind them
pub bytes_of_push : (fs : List ℕ) (f : ℕ) → bytes_of (fs ++ f ∷ []) ≡ bytes_of fs ++ four f
bytes_of_push [] f = refl
bytes_of_push (g ∷ fs) f = ap (λ (v : List ℕ). four g ++ v) (bytes_of_push fs f)

pub put_more : (fs : List ℕ) (f k : ℕ) (xs : List ℕ) {ys zs : List ℕ} → k ≡ 4 * length fs → ys ≡ bytes_of fs ++ drop k xs → zs ≡ put_at k (four f) ys → zs ≡ bytes_of (fs ++ f ∷ []) ++ drop (k + 4) xs
put_more fs f k xs {ys} l e p =
    let n : length (bytes_of fs) ≡ k = length_bytes_of fs ∙ sym l in
    let t : take k ys ≡ bytes_of fs = ap (take k) e ∙ take_at (bytes_of fs) (drop k xs) k n in
    let d : drop (k + 4) ys ≡ drop (k + 4) xs =
    sym (drop-drop 4 k ys) ∙ ap (drop 4) (ap (drop k) e ∙ drop_at (bytes_of fs) (drop k xs) k n) ∙ drop-drop 4 k xs
    in
    p
    ∙ ap (λ (v : List ℕ). v ++ (four f ++ drop (k + 4) ys)) t
    ∙ ap (λ (v : List ℕ). bytes_of fs ++ (four f ++ v)) d
    ∙ sym (append_assoc (bytes_of fs) (four f) (drop (k + 4) xs))
    ∙ ap (λ (v : List ℕ). v ++ drop (k + 4) xs) (sym (bytes_of_push fs f))

-- what holds where n is at most m is what the test of that picks
pub at_most : {X : Type 0} (n m : ℕ) (x y : X) {z : X} → n ≤ m → z ≡ x → z ≡ cond (leb n m) x y
at_most n m x y h e = e ∙ sym (cond-true (leb n m) x y (le-leb n m h))

-- what a write of zs to the part of n bytes from the offset on leaves
pub part_written : (at n : ℕ) (xs zs : List ℕ) {ys : List ℕ} → ys ≡ zs → n ≡ length zs → put_mid at n xs ys ≡ put_at at zs xs
part_written at n xs zs e l =
    ap (λ (v : List ℕ). take at xs ++ (v ++ drop n (drop at xs))) e
    ∙ ap (λ (v : List ℕ). take at xs ++ (zs ++ v)) (drop-drop n at xs ∙ ap (λ (k : ℕ). drop (at + k) xs) l)

-- the same where the part is lent to a writer that needs s of its bytes
pub lent_written : (at s : ℕ) (xs bs : List ℕ) {ys : List ℕ} → length bs ≡ s → at + s ≤ length xs → ys ≡ cond (leb s (length (take (length xs - at) (drop at xs)))) (bs ++ drop s (take (length xs - at) (drop at xs))) (take (length xs - at) (drop at xs)) → put_mid at (length xs - at) xs ys ≡ put_at at bs xs
lent_written at s xs bs {ys} l h e =
    let part = take (length xs - at) (drop at xs) in
    let r : part ≡ drop at xs = take_rest xs at in
    let n : s ≤ length part = omega (arith, ap length r, length-drop at xs) in
    let y : ys ≡ bs ++ drop s part = e ∙ cond-true (leb s (length part)) (bs ++ drop s part) part (le-leb s (length part) n) in
    let d : drop s part ≡ drop (at + length bs) xs = ap (drop s) r ∙ drop-drop s at xs ∙ ap (λ (k : ℕ). drop (at + k) xs) (sym l) in
    let z : drop (length xs - at) (drop at xs) ≡ [] = drop_all (length xs - at) (drop at xs) (omega (arith, length-drop at xs)) in
    ap (λ (v : List ℕ). take at xs ++ (ys ++ v)) z
    ∙ ap (λ (v : List ℕ). take at xs ++ v) (append-nil ys ∙ y ∙ ap (λ (v : List ℕ). bs ++ v) d)

-- a record found at the front of the part from its offset on is record i; r is the size as the code has it
pub found_at : {B : Type 0} (made : List ℕ → B) (xs : List ℕ) (i s at r : ℕ) → r ≡ s → at ≡ i * r → at + r ≤ length xs → (o : Option B) → MatchOption o (length (take (length xs - at) (drop at xs)) < s) (λ b. (s ≤ length (take (length xs - at) (drop at xs))) × (b ≡ made (fields_in (take s (take (length xs - at) (drop at xs)))))) → MatchOption o (length xs < i * s + s) (λ b. (i * s + s ≤ length xs) × (b ≡ made (fields_in (record_at s i xs))))
found_at made xs i s at r e p l None h =
    absurd (omega (arith, ap length (take_rest xs at), length-drop at xs))
found_at made xs i s at r e p l (Some b) h =
    let q : at ≡ i * s = p ∙ ap (λ (n : ℕ). i * n) e in
    (omega arith, h.1 ∙ ap (λ (v : List ℕ). made (fields_in (take s v))) (take_rest xs at ∙ ap (λ (n : ℕ). drop n xs) q))
