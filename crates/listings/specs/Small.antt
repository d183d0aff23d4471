-- A small register: two properties, three subjects on each side, and eight conditions, equal and then share for each pair of properties.
use Rattle.std.specs.Prelude.{◌≡◌, ℕ, ◌+◌, ◌*◌, true, false, List, [], ◌∷◌, map, replicate, nat_lt, slice_index}
use Rattle.contexts.specs.Pairs.{pairs, pair_code}
use Rattle.contexts.specs.Relation.{Relation}
use Rattle.records.specs.Kinds.{candidate_fields}
use Rattle.listings.specs.Calls.{Ask, take_at, page_from, tally_now, total_now, Reply, handed, ended, paged, refused, tallied, totalled}
use Rattle.listings.specs.Links.{links}
use Rattle.listings.specs.Candidates.{widening, candidates}
use Rattle.listings.specs.Counts.{candidate_body}
use Rattle.listings.specs.Replies.{replies}

-- The codes of its pairs, row by row.
abbrev pub small_codes : List ℕ
small_codes = 193 ∷ 67 ∷ 0 ∷ 67 ∷ 193 ∷ 0 ∷ 0 ∷ 0 ∷ 3 ∷ []

-- Its relation: everybody is present.
abbrev pub small : Relation
small =
    record {
      lefts = 3;
      rights = 3;
      conditions = 8;
      left_present = λ s. nat_lt s 3;
      right_present = λ t. nat_lt t 3;
      code = λ s t. slice_index small_codes (s * 3 + t);
    }

-- The questions: the code of each pair, the widenings of 64, of 128 and of 32, which has no link, the candidates, the left and the right subjects of the links of code 1, and the fields of its record.
abbrev pub small_questions : List (List ℕ)
small_questions = map (pair_code small) (pairs small) ∷ map (widening small) (64 ∷ 128 ∷ 32 ∷ []) ∷ candidates small ∷ map (λ p. p.0) (links small 1) ∷ map (λ p. p.1) (links small 1) ∷ candidate_fields (candidate_body small 1) ∷ []

-- The answers.
abbrev pub small_answers : List (List ℕ)
small_answers = small_codes ∷ (65 ∷ 193 ∷ 255 ∷ []) ∷ (1 ∷ 3 ∷ 65 ∷ 67 ∷ 193 ∷ []) ∷ (0 ∷ 0 ∷ 1 ∷ 1 ∷ 2 ∷ []) ∷ (0 ∷ 1 ∷ 0 ∷ 1 ∷ 2 ∷ []) ∷ (1 ∷ 0 ∷ 5 ∷ 3 ∷ 3 ∷ 3 ∷ 3 ∷ 1 ∷ []) ∷ []

-- The small register is listed as it was counted by hand.
abbrev pub SmallRegisterIsListed : Type 0
SmallRegisterIsListed = small_questions ≡ small_answers

-- Some calls: each that is turned down, a first take between two bytes of its buffer, pages of its links with space for fewer and for more than are left, and a tally.
abbrev pub small_asks : List Ask
small_asks =
    total_now ∷ page_from 0 [] ∷ take_at 0 (replicate 31 7) ∷ take_at 1 (replicate 34 7) ∷ page_from 6 [] ∷ page_from 4 (replicate 7 7) ∷ page_from 5 [] ∷ page_from 2 (replicate 20 7) ∷ page_from 4 (replicate 20 7) ∷ tally_now ∷ []

-- Their answers, byte by byte.
abbrev pub small_replies : List Reply
small_replies =
    refused (28, 0) [] ∷ refused (25, 0) [] ∷ refused (24, 0) (replicate 31 7)
    ∷ handed
    (7 ∷ 1 ∷ 0 ∷ 0 ∷ 0 ∷ 0 ∷ 0 ∷ 0 ∷ 0 ∷ 5 ∷ 0 ∷ 0 ∷ 0 ∷ 3 ∷ 0 ∷ 0 ∷ 0 ∷ 3 ∷ 0 ∷ 0 ∷ 0 ∷ 3 ∷ 0 ∷ 0 ∷ 0 ∷ 3 ∷ 0 ∷ 0 ∷ 0 ∷ 1 ∷ 0 ∷ 0 ∷ 0 ∷ 7 ∷ [])
    ∷ refused (26, 0) [] ∷ refused (27, 0) (replicate 7 7) ∷ paged 0 []
    ∷ paged 2 (1 ∷ 0 ∷ 0 ∷ 0 ∷ 0 ∷ 0 ∷ 0 ∷ 0 ∷ 1 ∷ 0 ∷ 0 ∷ 0 ∷ 1 ∷ 0 ∷ 0 ∷ 0 ∷ replicate 4 7)
    ∷ paged 1 (2 ∷ 0 ∷ 0 ∷ 0 ∷ 2 ∷ 0 ∷ 0 ∷ 0 ∷ replicate 12 7)
    ∷ tallied 1 1 false ∷ []

-- Calls after all five candidates were handed out: the end is told, and then the total.
abbrev pub small_last_asks : List Ask
small_last_asks = total_now ∷ take_at 0 (replicate 32 7) ∷ tally_now ∷ total_now ∷ []

-- Their answers.
abbrev pub small_last_replies : List Reply
small_last_replies = refused (28, 0) [] ∷ ended (replicate 32 7) ∷ tallied 5 193 true ∷ totalled 5 ∷ []

-- Calls on the small register are answered as by hand.
abbrev pub SmallRegisterIsAnswered : Type 0
SmallRegisterIsAnswered = (replies small 0 small_asks ≡ small_replies) × (replies small 5 small_last_asks ≡ small_last_replies)
