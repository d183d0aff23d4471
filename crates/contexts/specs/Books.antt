-- What the questions to a book's words make sure of. The lemmas stand here and not in proofs/: src/ cites them, and can cite nothing of its own crate's proofs/.
use Rattle.std.specs.Prelude.{◌≡◌, ℕ, ◌+◌, ◌-◌, ◌*◌, ◌/◌, ◌%◌, ◌^◌, ◌<◌, ◌≤◌, Bool, true, false, ◌&&◌, ◌||◌, List, length, is_some, ◌==◌, nat_lt, slice_index, refl}
use Rattle.std.proofs.Common.{sym, ap, ◌∙◌, arith, mul-le-mul_right, add-mul, one-mul, pow_pos}
use Rattle.std.proofs.Math.Arith.{digits_div, digits_mod}
use Rattle.std.proofs.lemmas.Bool.Decides.{nat_tests}
use Rattle.std.proofs.lemmas.Bool.{and_parts, and_left, and_right, ltb-true, le-ltb, cond_both}
use Rattle.records.proofs.Questions.{both_answered}
use Rattle.contexts.specs.Book.{book, book_size, pair_place}
use Rattle.contexts.specs.BookOpening.{presence_known, both_present, code_allowed, first_failing, book_fault}
use Rattle.contexts.specs.Relation.{Sound}
use Rattle.contexts.specs.Failing.{all_pass}

-- the word of a pair lies in the book
pub pair_within : (lefts rights s t : ℕ) → s < lefts → t < rights → pair_place lefts rights s t < book_size lefts rights
pair_within lefts rights s t hs ht =
    let a : (s + 1) * rights ≤ lefts * rights = mul-le-mul_right rights (omega arith) in
    omega (arith, a, add-mul s 1 rights, one-mul rights)

-- what stands of words that nothing refuses
pub record Facts (words : List ℕ) (lefts rights conditions : ℕ) : Type 0 where
  pub few_lefts : lefts ≤ 2048
  pub few_rights : rights ≤ 2048
  pub few_conditions : conditions ≤ 64
  pub whole : length words ≡ book_size lefts rights
  pub presences : (i : ℕ) → i < lefts + rights → presence_known words i ≡ true
  pub codes : (i : ℕ) → lefts + rights ≤ i → i < lefts + rights + lefts * rights → code_allowed words lefts rights conditions i ≡ true

pub facts : (words : List ℕ) (lefts rights conditions : ℕ) → is_some (book_fault words lefts rights conditions) ≡ false → Facts words lefts rights conditions
facts words lefts rights conditions h =
    let presence = first_failing 22 (presence_known words) 0 (lefts + rights) in
    let coded = first_failing 23 (code_allowed words lefts rights conditions) (lefts + rights) (lefts * rights) in
    let rest : (is_some presence ≡ false) × (is_some coded ≡ false) = grind (arith, nat_tests, both_answered presence coded) in
    record {
      few_lefts = grind (arith, nat_tests);
      few_rights = grind (arith, nat_tests);
      few_conditions = grind (arith, nat_tests);
      whole = grind (arith, nat_tests);
      presences = λ i l. all_pass 22 (presence_known words) 0 (lefts + rights) rest.0 i (omega arith) (omega arith);
      codes = λ i l u. all_pass 23 (code_allowed words lefts rights conditions) (lefts + rights) (lefts * rights) rest.1 i l u;
    }

-- the word of a pair of subject numbers, and what it may be
pub code_word : (words : List ℕ) (lefts rights conditions s t : ℕ) → Facts words lefts rights conditions → s < lefts → t < rights → (slice_index words (pair_place lefts rights s t) < 2 ^ conditions) × ((both_present words lefts s t || slice_index words (pair_place lefts rights s t) == 0) ≡ true)
code_word words lefts rights conditions s t f hs ht =
    let i = pair_place lefts rights s t in
    let pair : i - (lefts + rights) ≡ s * rights + t = omega arith in
    let row : (i - (lefts + rights)) / rights ≡ s = ap (λ (n : ℕ). n / rights) pair ∙ digits_div s ht in
    let column : (i - (lefts + rights)) % rights ≡ t = ap (λ (n : ℕ). n % rights) pair ∙ digits_mod s ht in
    let p = and_parts (nat_lt (slice_index words i) (2 ^ conditions)) _ (f.codes i (omega arith) (omega (arith, pair_within lefts rights s t hs ht))) in (
      ltb-true (slice_index words i) (2 ^ conditions) p.0,
      ap (λ (n : ℕ). both_present words lefts n t || slice_index words i == 0) (sym row)
          ∙ ap (λ (n : ℕ). both_present words lefts ((i - (lefts + rights)) / rights) n || slice_index words i == 0) (sym column)
          ∙ p.1,
    )

-- the code of a pair is its word, and 0 out of range
pub code_cases : (words : List ℕ) (lefts rights conditions s t : ℕ) (P : ℕ → Type 0) → P 0 → (s < lefts → t < rights → P (slice_index words (pair_place lefts rights s t))) → P ((book words lefts rights conditions).code s t)
code_cases words lefts rights conditions s t P none some =
    cond_both (nat_lt s lefts && nat_lt t rights) (slice_index words (pair_place lefts rights s t)) 0 P
    (λ e. let p = and_parts (nat_lt s lefts) (nat_lt t rights) e in some (ltb-true s lefts p.0) (ltb-true t rights p.1))
    (λ _. none)

-- a word that is no code of present subjects is 0
pub zero_unless : (present : Bool) (w : ℕ) → present ≡ false → (present || w == 0) ≡ true → w ≡ 0
zero_unless present w e h = grind (arith, nat_tests)

-- a subject number within the side is absent by its word
pub absent_word : (n i w : ℕ) → i < n → (nat_lt i n && w == 1) ≡ false → (w == 1) ≡ false
absent_word n i w h e = grind (arith, nat_tests)

pub book_sound : (words : List ℕ) (lefts rights conditions : ℕ) → Facts words lefts rights conditions → Sound (book words lefts rights conditions)
book_sound words lefts rights conditions f =
    let c = book words lefts rights conditions in
    record {
      few_lefts = f.few_lefts;
      few_rights = f.few_rights;
      few_conditions = f.few_conditions;
      left_absent_beyond = λ s h. and_left (nat_lt s lefts) (slice_index words s == 1) (le-ltb s lefts h);
      right_absent_beyond = λ t h. and_left (nat_lt t rights) (slice_index words (lefts + t) == 1) (le-ltb t rights h);
      codes_below = λ s t. code_cases words lefts rights conditions s t (λ n. n < 2 ^ conditions) (pow_pos conditions) (λ hs ht. (code_word words lefts rights conditions s t f hs ht).0);
      left_absent_none = λ s t e. code_cases words lefts rights conditions s t (λ n. n ≡ 0) refl
          (λ hs ht. zero_unless (both_present words lefts s t) _ (and_left (slice_index words s == 1) (slice_index words (lefts + t) == 1) (absent_word lefts s (slice_index words s) hs e)) (code_word words lefts rights conditions s t f hs ht).1);
      right_absent_none = λ s t e. code_cases words lefts rights conditions s t (λ n. n ≡ 0) refl
          (λ hs ht. zero_unless (both_present words lefts s t) _ (and_right (slice_index words s == 1) (slice_index words (lefts + t) == 1) (absent_word rights t (slice_index words (lefts + t)) ht e)) (code_word words lefts rights conditions s t f hs ht).1);
    }
