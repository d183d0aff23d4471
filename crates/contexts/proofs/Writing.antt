-- What stands where in the words of a relation's book.
use Rattle.std.proofs.Common.{◌≡◌, ℕ, zero, suc, ◌+◌, ◌-◌, ◌*◌, ◌/◌, ◌%◌, ◌^◌, ◌<◌, ◌≤◌, Bool, true, false, cond, ◌&&◌, ◌||◌, eqb, ltb, List, ◌++◌, map, length, get_or, None, sym, refl, ap, ◌∙◌, ⊎_elim, add-zero, mod-lt, suc-mul, div-lt_iff_lt-mul, mul-zero, div-add-mod', zero-add, zero-mul, arith, length-append}
use Rattle.std.proofs.lemmas.List.FromFn.{length-map-range_with_len, get_or-map-range_with_len}
use Rattle.std.proofs.lemmas.List.{get_or_append_left, get_or-append_right}
use Rattle.std.proofs.lemmas.Bool.Decides.{nat_tests}
use Rattle.std.proofs.lemmas.Grind.{common_steps}
use Rattle.std.proofs.lemmas.Bool.{and_from, lt-ltb, cases_lt}
use Rattle.std.specs.List.{range_with_len, flat_map}
use Rattle.lattice.specs.Sets.{range}
use Rattle.contexts.specs.Book.{presence_word, book_size, book_words, pair_place, book}
use Rattle.contexts.specs.BookOpening.{presence_known, both_present, code_allowed, book_fault}
use Rattle.contexts.specs.Laws.{BooksComeBack}
use Rattle.contexts.specs.Relation.{Relation, Sound}
use Rattle.contexts.proofs.Failing.{none_fails}

-- rows of codes one behind another
abbrev rows : (ℕ → ℕ → ℕ) → ℕ → ℕ → ℕ → List ℕ
rows code rights a n = flat_map (λ s. map (code s) (range rights)) (range_with_len a n)

length_rows : (code : ℕ → ℕ → ℕ) (rights a n : ℕ) → length (rows code rights a n) ≡ n * rights
length_rows code rights a zero = omega arith
length_rows code rights a (suc n) =
    length-append (map (code a) (range rights)) (rows code rights (a + 1) n)
    ∙ omega (arith, length-map-range_with_len (code a) 0 rights, length_rows code rights (a + 1) n, suc-mul n rights)

get_or_rows : (code : ℕ → ℕ → ℕ) (rights a n s t : ℕ) → s < n → t < rights → get_or (rows code rights a n) (s * rights + t) 0 ≡ code (a + s) t
get_or_rows code rights a zero s t hs ht = absurd (omega arith)
get_or_rows code rights a (suc n) zero t hs ht =
    let first = map (code a) (range rights) in
    let here : 0 * rights + t ≡ t = omega (arith, zero-mul rights) in
    ap (λ (k : ℕ). get_or (rows code rights a (suc n)) k 0) here
    ∙ get_or_append_left first (rows code rights (a + 1) n) 0 t (omega (arith, length-map-range_with_len (code a) 0 rights))
    ∙ get_or-map-range_with_len (code a) 0 rights t t 0 ht (zero-add t)
    ∙ ap (λ (k : ℕ). code k t) (sym (add-zero a))
get_or_rows code rights a (suc n) (suc s) t hs ht =
    let first = map (code a) (range rights) in
    let l = length-map-range_with_len (code a) 0 rights in
    let there : suc s * rights + t - rights ≡ s * rights + t = omega (arith, suc-mul s rights) in
    get_or-append_right first (rows code rights (a + 1) n) rights (suc s * rights + t) 0 l (omega (arith, suc-mul s rights))
    ∙ ap (λ (k : ℕ). get_or (rows code rights (a + 1) n) k 0) there
    ∙ get_or_rows code rights (a + 1) n s t (omega arith) ht
    ∙ ap (λ (k : ℕ). code k t) (omega arith)

-- three parts one behind another
length_parts : (xs ys zs : List ℕ) → length (xs ++ (ys ++ zs)) ≡ length xs + (length ys + length zs)
length_parts xs ys zs = length-append xs (ys ++ zs) ∙ ap (λ (n : ℕ). length xs + n) (length-append ys zs)

pub length_book : (c : Relation) → length (book_words c) ≡ book_size c.lefts c.rights
unfolding book_words
length_book c =
    length_parts (map (λ s. presence_word (c.left_present s)) (range c.lefts)) (map (λ t. presence_word (c.right_present t)) (range c.rights)) (rows c.code c.rights 0 c.lefts)
    ∙ omega (
      arith,
      length-map-range_with_len (λ s. presence_word (c.left_present s)) 0 c.lefts,
      length-map-range_with_len (λ t. presence_word (c.right_present t)) 0 c.rights,
      length_rows c.code c.rights 0 c.lefts,
    )

left_word : (c : Relation) (s : ℕ) → s < c.lefts → get_or (book_words c) s 0 ≡ presence_word (c.left_present s)
unfolding book_words
left_word c s h =
    let f : ℕ → ℕ = λ s. presence_word (c.left_present s) in
    get_or_append_left (map f (range c.lefts)) _ 0 s (omega (arith, length-map-range_with_len f 0 c.lefts))
    ∙ get_or-map-range_with_len f 0 c.lefts s s 0 h (zero-add s)

right_word : (c : Relation) (t : ℕ) → t < c.rights → get_or (book_words c) (c.lefts + t) 0 ≡ presence_word (c.right_present t)
unfolding book_words
right_word c t h =
    let f : ℕ → ℕ = λ s. presence_word (c.left_present s) in
    let g : ℕ → ℕ = λ t. presence_word (c.right_present t) in
    let there : c.lefts + t - c.lefts ≡ t = omega arith in
    get_or-append_right (map f (range c.lefts)) (map g (range c.rights) ++ rows c.code c.rights 0 c.lefts) c.lefts (c.lefts + t) 0 (length-map-range_with_len f 0 c.lefts) (omega arith)
    ∙ ap (λ (k : ℕ). get_or (map g (range c.rights) ++ rows c.code c.rights 0 c.lefts) k 0) there
    ∙ get_or_append_left (map g (range c.rights)) (rows c.code c.rights 0 c.lefts) 0 t (omega (arith, length-map-range_with_len g 0 c.rights))
    ∙ get_or-map-range_with_len g 0 c.rights t t 0 h (zero-add t)

pair_word : (c : Relation) (s t : ℕ) → s < c.lefts → t < c.rights → get_or (book_words c) (pair_place c.lefts c.rights s t) 0 ≡ c.code s t
unfolding book_words
pair_word c s t hs ht =
    let f : ℕ → ℕ = λ s. presence_word (c.left_present s) in
    let g : ℕ → ℕ = λ t. presence_word (c.right_present t) in
    let i = pair_place c.lefts c.rights s t in
    let codes = rows c.code c.rights 0 c.lefts in
    let there : i - c.lefts - c.rights ≡ s * c.rights + t = omega arith in
    get_or-append_right (map f (range c.lefts)) (map g (range c.rights) ++ codes) c.lefts i 0 (length-map-range_with_len f 0 c.lefts) (omega arith)
    ∙ get_or-append_right (map g (range c.rights)) codes c.rights (i - c.lefts) 0 (length-map-range_with_len g 0 c.rights) (omega arith)
    ∙ ap (λ (k : ℕ). get_or codes k 0) there
    ∙ get_or_rows c.code c.rights 0 c.lefts s t hs ht
    ∙ ap (λ (k : ℕ). c.code k t) (zero-add s)

-- a presence word tells who is present
word_tells : (b : Bool) → eqb (presence_word b) 1 ≡ b
word_tells true = refl
word_tells false = refl

word_small : (b : Bool) → presence_word b ≤ 1
word_small true = omega arith
word_small false = omega arith

left_tells : (c : Relation) → Sound c → (s : ℕ) → (ltb s c.lefts && eqb (get_or (book_words c) s 0) 1) ≡ c.left_present s
left_tells c sound s = grind (arith, common_steps, nat_tests, left_word c s, word_tells (c.left_present s), sound.left_absent_beyond s)

right_tells : (c : Relation) → Sound c → (t : ℕ) → (ltb t c.rights && eqb (get_or (book_words c) (c.lefts + t) 0) 1) ≡ c.right_present t
right_tells c sound t = grind (arith, common_steps, nat_tests, right_word c t, word_tells (c.right_present t), sound.right_absent_beyond t)

code_tells : (c : Relation) → Sound c → (s t : ℕ) → cond (ltb s c.lefts && ltb t c.rights) (get_or (book_words c) (pair_place c.lefts c.rights s t) 0) 0 ≡ c.code s t
code_tells c sound s t = grind (arith, common_steps, nat_tests, pair_word c s t, sound.left_absent_none s t, sound.right_absent_none s t, sound.left_absent_beyond s, sound.right_absent_beyond t)

pub book_means : (c : Relation) → Sound c → book (book_words c) c.lefts c.rights c.conditions ≡ c
book_means c sound = λ i. record {
  lefts = c.lefts;
  rights = c.rights;
  conditions = c.conditions;
  left_present = λ s. left_tells c sound s i;
  right_present = λ t. right_tells c sound t i;
  code = λ s t. code_tells c sound s t i;
}

presences_pass : (c : Relation) (i : ℕ) → i < c.lefts + c.rights → presence_known (book_words c) i ≡ true
presences_pass c i h =
    let right : c.lefts ≤ i → get_or (book_words c) i 0 ≡ presence_word (c.right_present (i - c.lefts)) = λ l. let there : c.lefts + (i - c.lefts) ≡ i = omega arith in ap (λ (k : ℕ). get_or (book_words c) k 0) (sym there) ∙ right_word c (i - c.lefts) (omega arith) in
    grind (arith, common_steps, nat_tests, left_word c i, right, word_small (c.left_present i), word_small (c.right_present (i - c.lefts)))

-- a code may stand where both are present, and else it is 0
pair_allowed : (c : Relation) → Sound c → (s t : ℕ) → s < c.lefts → t < c.rights → (both_present (book_words c) c.lefts s t || eqb (c.code s t) 0) ≡ true
pair_allowed c sound s t hs ht =
    grind (arith, common_steps, nat_tests, left_word c s hs, right_word c t ht, word_tells (c.left_present s), word_tells (c.right_present t), sound.left_absent_none s t, sound.right_absent_none s t)

codes_pass : (c : Relation) → Sound c → (i : ℕ) → c.lefts + c.rights ≤ i → i < c.lefts + c.rights + c.lefts * c.rights → code_allowed (book_words c) c.lefts c.rights c.conditions i ≡ true
codes_pass c sound i l u =
    let words = book_words c in
    let j = i - (c.lefts + c.rights) in
    let some : 0 < c.rights = ⊎_elim (λ (h : 0 < c.rights). h) (λ (h : c.rights ≤ 0). let z : c.rights ≡ 0 = omega arith in absurd (omega (arith, ap (λ (n : ℕ). c.lefts * n) z, mul-zero c.lefts))) (cases_lt 0 c.rights) in
    let s = j / c.rights in
    let t = j % c.rights in
    let hs : s < c.lefts = (div-lt_iff_lt-mul some).1 (omega arith) in
    let ht : t < c.rights = mod-lt j some in
    let place : i ≡ pair_place c.lefts c.rights s t = omega (arith, div-add-mod' j c.rights) in
    let word : get_or words i 0 ≡ c.code s t = ap (λ (k : ℕ). get_or words k 0) place ∙ pair_word c s t hs ht in
    and_from (ltb (get_or words i 0) (2 ^ c.conditions)) (both_present words c.lefts s t || eqb (get_or words i 0) 0)
    (lt-ltb (get_or words i 0) (2 ^ c.conditions) (omega (arith, word, sound.codes_below s t)))
    (ap (λ (w : ℕ). both_present words c.lefts s t || eqb w 0) word ∙ pair_allowed c sound s t hs ht)

pub book_unrefused : (c : Relation) → Sound c → book_fault (book_words c) c.lefts c.rights c.conditions ≡ None
book_unrefused c sound =
    let words = book_words c in
    let presences = none_fails 22 (presence_known words) 0 (c.lefts + c.rights) (λ i l u. presences_pass c i (omega arith)) in
    let codes = none_fails 23 (code_allowed words c.lefts c.rights c.conditions) (c.lefts + c.rights) (c.lefts * c.rights) (codes_pass c sound) in
    grind (arith, common_steps, nat_tests, presences, codes, length_book c, sound.few_lefts, sound.few_rights, sound.few_conditions)

pub book_comes_back : BooksComeBack
book_comes_back c sound = (book_unrefused c sound, book_means c sound)
