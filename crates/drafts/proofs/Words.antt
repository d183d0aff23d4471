-- Words that are written one by one, row by row, and part by part.
use Rattle.std.proofs.Common.{◌≡◌, ℕ, suc, ◌+◌, ◌-◌, ◌*◌, ◌<◌, ◌≤◌, List, [], ◌∷◌, ◌++◌, map, length, take, drop, sym, ap, ◌∙◌, ap₂, mul-le-mul_right, suc-mul, add-mul, one-mul, zero-add, arith}
use borrow.Rule.Slice.PartMut.{put_mid}
use Rattle.std.specs.List.{flat_map}
use Rattle.std.proofs.lemmas.List.FromFn.{length-map-range_with_len, map-range_with_len_more}
use Rattle.std.proofs.lemmas.List.{map-id, flat_map_more, length-take, length-drop, length-append, take-append-drop, append_assoc}
use Rattle.std.proofs.lemmas.Slice.{take-put_mid, drop-put_mid}
use Rattle.contexts.specs.Book.{presence_word, book_words}
use Rattle.contexts.specs.Relation.{Relation}
use Rattle.lattice.specs.Sets.{range}
use Rattle.drafts.specs.Freezing.{frozen}

pub range_more : (n : ℕ) → range (n + 1) ≡ range n ++ n ∷ []
range_more n =
    sym (map-id (range (n + 1))) ∙ map-range_with_len_more (λ (x : ℕ). x) 0 n n (zero-add n) ∙ ap (λ (xs : List ℕ). xs ++ n ∷ []) (map-id (range n))

-- one more row
pub rows_next : (row : ℕ → List ℕ) (xs ys : List ℕ) (s width k : ℕ) → s * width ≤ length xs → take (s * width) xs ≡ flat_map row (range s) → ys ≡ row s → length ys ≡ width → take ((s + 1) * width) (put_mid (s * width) k xs ys) ≡ flat_map row (range (s + 1))
rows_next row xs ys s width k l h e n =
    take-put_mid (s * width) k xs ys ((s + 1) * width) (omega (arith, add-mul s 1 width, one-mul width)) l
    ∙ ap₂ (λ (us vs : List ℕ). us ++ vs) h e
    ∙ flat_map_more row [] (range s) s
    ∙ ap (flat_map row) (sym (range_more s))

-- a row lies within the words
pub row_within : (s lefts width : ℕ) → s < lefts → s * width + width ≤ lefts * width
row_within s lefts width h = omega (arith, suc-mul s width, mul-le-mul_right {m = suc s} {n = lefts} width (omega arith))

pub part_length : (xs : List ℕ) (a k : ℕ) → a + k ≤ length xs → length (take (a + k - a) (drop a xs)) ≡ k
part_length xs a k h = omega (arith, length-take (a + k - a) (drop a xs), length-drop a xs)

-- a write to a part keeps the length
pub put_length : (a k : ℕ) (xs ys : List ℕ) → a + k ≤ length xs → length ys ≡ k → length (put_mid a k xs ys) ≡ length xs
put_length a k xs ys h l =
    omega (arith, length-append (take a xs) (ys ++ drop k (drop a xs)), length-append ys (drop k (drop a xs)), length-take a xs, length-drop k (drop a xs), length-drop a xs)

-- three parts, one after the other from the front
pub three_parts :
    (xs us vs ws : List ℕ) (a b c j k m : ℕ)
    → length us ≡ a
    → length vs ≡ b
    → length ws ≡ c
    → j ≡ a
    → k ≡ b
    → m ≡ c
    → put_mid (a + b) m (put_mid a k (put_mid 0 j xs us) vs) ws ≡ (us ++ (vs ++ ws)) ++ drop (a + b + c) xs
three_parts xs us vs ws a b c j k m lu lv lw ej ek em =
    let one = put_mid 0 j xs us in
    let two = put_mid a k one vs in
    let three = put_mid (a + b) m two ws in
    let n = a + b + c in
    let first : take a one ≡ us = take-put_mid 0 j xs us a (omega arith) (omega arith) in
    let reach-one : a ≤ length one = omega (arith, length-take a one, ap length first) in
    let second : take (a + b) two ≡ us ++ vs = take-put_mid a k one vs (a + b) (omega arith) reach-one ∙ ap (λ (zs : List ℕ). zs ++ vs) first in
    let reach-two : a + b ≤ length two = omega (arith, length-take (a + b) two, ap length second, length-append us vs) in
    let third : take n three ≡ (us ++ vs) ++ ws = take-put_mid (a + b) m two ws n (omega arith) reach-two ∙ ap (λ (zs : List ℕ). zs ++ ws) second in
    let rest : drop n three ≡ drop n xs = drop-put_mid (a + b) m two ws n (omega arith) reach-two (omega arith) ∙ drop-put_mid a k one vs n (omega arith) reach-one (omega arith) ∙ drop-put_mid 0 j xs us n (omega arith) (omega arith) (omega arith) in
    sym (take-append-drop n three) ∙ ap₂ (λ (ys zs : List ℕ). ys ++ zs) (third ∙ append_assoc us vs ws) rest

-- the book of a relation, written in three parts
pub frozen_by :
    (c : Relation) (xs us vs ws : List ℕ) (a b j k m : ℕ)
    → a ≡ c.lefts
    → b ≡ c.rights
    → us ≡ map (λ s. presence_word (c.left_present s)) (range a)
    → vs ≡ map (λ t. presence_word (c.right_present t)) (range b)
    → ws ≡ flat_map (λ s. map (c.code s) (range b)) (range a)
    → length ws ≡ a * b
    → j ≡ a
    → k ≡ b
    → m ≡ a * b
    → put_mid (a + b) m (put_mid a k (put_mid 0 j xs us) vs) ws ≡ frozen c xs
unfolding book_words
frozen_by c xs us vs ws a b j k m ea eb eu ev ew lw ej ek em =
    let lu : length us ≡ a = ap length eu ∙ length-map-range_with_len (λ s. presence_word (c.left_present s)) 0 a in
    let lv : length vs ≡ b = ap length ev ∙ length-map-range_with_len (λ t. presence_word (c.right_present t)) 0 b in
    three_parts xs us vs ws a b (a * b) j k m lu lv lw ej ek em
    ∙ ap (λ (zs : List ℕ). (zs ++ (vs ++ ws)) ++ drop (a + b + a * b) xs) eu
    ∙ ap (λ (zs : List ℕ). (map (λ s. presence_word (c.left_present s)) (range a) ++ (zs ++ ws)) ++ drop (a + b + a * b) xs) ev
    ∙ ap (λ (zs : List ℕ). (map (λ s. presence_word (c.left_present s)) (range a) ++ (map (λ t. presence_word (c.right_present t)) (range b) ++ zs)) ++ drop (a + b + a * b) xs) ew
    ∙ ap₂ (λ (p q : ℕ). (map (λ s. presence_word (c.left_present s)) (range p) ++ (map (λ t. presence_word (c.right_present t)) (range q) ++ flat_map (λ s. map (c.code s) (range q)) (range p))) ++ drop (p + q + p * q) xs) ea eb
