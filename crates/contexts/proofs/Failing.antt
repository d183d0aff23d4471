-- The first word that fails its test.
use Rattle.std.proofs.Common.{◌≡◌, ℕ, zero, suc, ◌+◌, ◌-◌, ◌<◌, ◌≤◌, Bool, true, false, List, length, take, Some, None, Option, MatchOption, Ok, Err, refl, ap, ◌∙◌, arith}
use Rattle.std.specs.List.{AllWithin, HoldsAt}
use Rattle.std.specs.Option.{option_map_or}
use Rattle.std.proofs.lemmas.Bool.{cond-true, cond-false}
use Rattle.std.proofs.lemmas.Bool.Decides.{nat_tests}
use Rattle.std.proofs.lemmas.Grind.{common_steps}
use Rattle.records.specs.Questions.{Checked}
use Rattle.contexts.specs.declared.row_book.BookFault.{BookFault}
use Rattle.contexts.specs.BookOpening.{first_failing, presence_known}
use Rattle.contexts.specs.BookRefusals.{book_refusal}

one_less : (i n : ℕ) → i < n → n - i ≡ suc (n - (i + 1))
one_less i n h = omega arith

-- at a word that passes, at one that fails, and behind the last
pub failing_more : (number : ℕ) (test : ℕ → Bool) (i n : ℕ) → i < n → test i ≡ true → first_failing number test i (n - i) ≡ first_failing number test (i + 1) (n - (i + 1))
failing_more number test i n h e =
    ap (first_failing number test i) (one_less i n h)
    ∙ cond-true (test i) (first_failing number test (i + 1) (n - (i + 1))) (Some (number, i)) e

pub failing_here : (number : ℕ) (test : ℕ → Bool) (i n : ℕ) → i < n → test i ≡ false → first_failing number test i (n - i) ≡ Some (number, i)
failing_here number test i n h e =
    ap (first_failing number test i) (one_less i n h)
    ∙ cond-false (test i) (first_failing number test (i + 1) (n - (i + 1))) (Some (number, i)) e

pub failing_none : (number : ℕ) (test : ℕ → Bool) (i n : ℕ) → n ≤ i → first_failing number test i (n - i) ≡ None
failing_none number test i n h = let z : n - i ≡ 0 = omega arith in ap (first_failing number test i) z

pub none_fails : (number : ℕ) (test : ℕ → Bool) (a n : ℕ) → ((i : ℕ) → a ≤ i → i < a + n → test i ≡ true) → first_failing number test a n ≡ None
none_fails number test a zero h = refl
none_fails number test a (suc n) h = grind (arith, nat_tests, h a, none_fails number test (a + 1) n (λ i l u. h i (omega arith) (omega arith)))

first_fails : (number : ℕ) (test : ℕ → Bool) (a n i : ℕ) → a ≤ i → i < a + n → test i ≡ false → ((k : ℕ) → a ≤ k → k < i → test k ≡ true) → first_failing number test a n ≡ Some (number, i)
first_fails number test a zero i l u e before = absurd (omega arith)
first_fails number test a (suc n) i l u e before =
    grind (arith, nat_tests, before a, λ (same : a ≡ i). ap test same, λ (more : a < i). first_fails number test (a + 1) n i (omega arith) (omega arith) e (λ k m. before k (omega arith)))

-- what a search among the words a to e found: the first that fails its test, if one does
abbrev pub FirstFailing : (ℕ → Bool) → ℕ → ℕ → Option ℕ → Type 0
FirstFailing test a e o =
    MatchOption o ((k : ℕ) → a ≤ k → k < e → test k ≡ true) (λ i. (a ≤ i) × (i < e) × (test i ≡ false) × ((k : ℕ) → a ≤ k → k < i → test k ≡ true))

-- a fault of that word answers the question
pub answered_by_first : (number : ℕ) (fault : ℕ → BookFault) → ((i : ℕ) → (number, i) ≡ book_refusal (fault i)) → (test : ℕ → Bool) (a n e : ℕ) → a + n ≡ e → (o : Option ℕ) → FirstFailing test a e o → Checked book_refusal (first_failing number test a n) (option_map_or (λ i. Err (fault i)) o (Ok tt))
answered_by_first number fault tells test a n e all None h = none_fails number test a n (λ i l u. h i l (omega arith))
answered_by_first number fault tells test a n e all (Some i) h = first_fails number test a n i h.0 (omega (arith, h.1)) h.2 h.3 ∙ ap Some (tells i)

-- a search through the words themselves
pub presence_found : (words : List ℕ) (n : ℕ) → n ≤ length words → (o : Option ℕ) → MatchOption o (AllWithin (λ w. w ≤ 1) (take n words) 0 (length (take n words))) (λ i. (i < length (take n words)) × HoldsAt (λ w. 1 < w) (take n words) i × AllWithin (λ w. w ≤ 1) (take n words) 0 i) → FirstFailing (presence_known words) 0 n o
presence_found words n within None h = λ k l u. grind (arith, common_steps, nat_tests, h k 0)
presence_found words n within (Some i) h = (omega arith, grind (arith, common_steps, h.0), grind (arith, common_steps, nat_tests, h.0, h.1 0), λ k l u. grind (arith, common_steps, nat_tests, h.0, h.2 k 0))
