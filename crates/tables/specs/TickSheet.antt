use Rattle.std.specs.Prelude.{◌≡◌, ℕ, ◌+◌, ◌*◌, ◌/◌, ◌%◌, ◌^◌, ◌<◌, Bool, true, false, cond, ◌⊎◌, List, [], ◌∷◌, map, length, take, drop, None, filter, Option, ◌==◌, nat_le, nat_lt, slice_index}
use Rattle.std.specs.List.{range_with_len, list_all}
use Rattle.records.specs.Refusals.{Refusal}
use Rattle.tables.specs.Meaning.{Meaning}
use Rattle.records.specs.Questions.{ask, first_no}

-- Whether a word ticks value v: by its bit of weight 2^v.
abbrev pub is_ticked : ℕ → ℕ → Bool
is_ticked w v = w / 2 ^ v % 2 == 1

-- The values that a word ticks, of 0 to 63, ascending.
unfoldable pub ticked : ℕ → List ℕ
ticked w = filter (is_ticked w) (range_with_len 0 64)

-- The words of subject s: its presence word, then a word for each of the m properties.
abbrev pub row : List ℕ → ℕ → ℕ → List ℕ
row ws m s = take (m + 1) (drop (s * (m + 1)) ws)

-- The first of the words of a subject: 1 or 0.
abbrev pub presence_word : List ℕ → ℕ
presence_word r = slice_index r 0

-- The word of a subject that ticks its values at property p.
abbrev pub tick_word : List ℕ → ℕ → ℕ
tick_word r p = slice_index r (p + 1)

-- Whether subject s is one of the n and its presence word is 1.
abbrev pub sheet_present : List ℕ → ℕ → ℕ → ℕ → Bool
sheet_present ws n m s = cond (nat_lt s n) (presence_word (row ws m s) == 1) false

-- What a tick sheet of n subjects and m properties means: a present subject has at a property the values that its word there ticks.
abbrev pub sheet : List ℕ → ℕ → ℕ → Meaning
sheet ws n m = record {
  subjects = n;
  properties = m;
  present = sheet_present ws n m;
  values = λ s p. cond (sheet_present ws n m s) (cond (nat_lt p m) (ticked (tick_word (row ws m s) p)) []) [];
}

-- Whether every word is 0.
abbrev pub all_zero : List ℕ → Bool
all_zero ws = list_all (λ w. w == 0) ws

-- Whether the words of an absent subject behind its presence word are 0; those of a present one may be any.
abbrev pub clear_if_absent : List ℕ → Bool
clear_if_absent r = cond (presence_word r == 0) (all_zero (drop 1 r)) true

-- The first "no" to the words of subject s: the first is 0 or 1 (9), and those of an absent subject are 0 (10).
abbrev pub row_fault : ℕ → List ℕ → Option Refusal
row_fault s r = ask (nat_le (presence_word r) 1) (9, s) (ask (clear_if_absent r) (10, s) None)

-- The first "no" to the words of subjects that are numbered from s on.
abbrev pub rows_fault : ℕ → List (List ℕ) → Option Refusal
rows_fault s [] = None
rows_fault s (r ∷ rs) = first_no (row_fault s r) (rows_fault (s + 1) rs)

-- The first "no" to words as a tick sheet of n subjects and m properties.
abbrev pub sheet_fault : List ℕ → ℕ → ℕ → Option Refusal
sheet_fault ws n m =
    ask (nat_le n 2048) (2, 0)
    (ask (nat_le m 64) (3, 0)
    (ask (length ws == n * (m + 1)) (8, 0) (rows_fault 0 (map (row ws m) (range_with_len 0 n)))))

-- What every tick sheet keeps: m + 1 words for each subject, each presence word 0 or 1, and nothing ticked where it is 0.
pub record Consistent (n m : ℕ) (ws : List ℕ) : Type 0 where
  pub whole : length ws ≡ n * (m + 1)
  pub zero_or_one : (s : ℕ) → s < n → (presence_word (row ws m s) ≡ 0) ⊎ (presence_word (row ws m s) ≡ 1)
  pub absent_unticked : (s p : ℕ) → s < n → presence_word (row ws m s) ≡ 0 → tick_word (row ws m s) p ≡ 0
