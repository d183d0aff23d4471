use Rattle.std.specs.Prelude.{ℕ, zero, suc, ◌+◌, ◌-◌, ◌*◌, ◌/◌, ◌%◌, ◌^◌, Bool, ◌&&◌, ◌||◌, List, length, None, Option, ◌==◌, nat_le, nat_lt, slice_index}
use Rattle.records.specs.Questions.{ask, first_no}
use Rattle.records.specs.Refusals.{Refusal}
use Rattle.contexts.specs.Book.{book_size}

-- Whether word i is 0 or 1, as a presence word must be.
abbrev pub presence_known : List ℕ → ℕ → Bool
presence_known words i = nat_le (slice_index words i) 1

-- Whether the presence words of a pair of subjects are both 1.
abbrev pub both_present : List ℕ → ℕ → ℕ → ℕ → Bool
both_present words lefts s t = slice_index words s == 1 && slice_index words (lefts + t) == 1

-- Whether word i may stand there as the code of its pair: below 2^k, and 0 where either subject is absent.
abbrev pub code_allowed : List ℕ → ℕ → ℕ → ℕ → ℕ → Bool
code_allowed words lefts rights conditions i =
    nat_lt (slice_index words i) (2 ^ conditions)
    && (both_present words lefts ((i - (lefts + rights)) / rights) ((i - (lefts + rights)) % rights) || slice_index words i == 0)

-- The first of n words, from word i on, that fails its test gives the number, with the word as its place.
abbrev pub first_failing : ℕ → (ℕ → Bool) → ℕ → ℕ → Option Refusal
first_failing number test i zero = None
first_failing number test i (suc n) = ask (test i) (number, i) (first_failing number test (i + 1) n)

-- The first no to words as a book of so many left and right subjects and conditions.
abbrev pub book_fault : List ℕ → ℕ → ℕ → ℕ → Option Refusal
book_fault words lefts rights conditions =
    ask (nat_le lefts 2048 && (nat_le rights 2048 && nat_le conditions 64)) (20, 0)
    (ask (length words == book_size lefts rights) (21, 0)
    (first_no (first_failing 22 (presence_known words) 0 (lefts + rights)) (first_failing 23 (code_allowed words lefts rights conditions) (lefts + rights) (lefts * rights))))
