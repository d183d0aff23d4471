-- What a listing keeps of its context: who is present on each side, how many conditions there are, and the pairs that have a code.
use Rattle.std.specs.Prelude.{◌≡◌, ℕ, ◌^◌, ◌<◌, ◌≤◌, Bool, true, false, cond, not, ◌&&◌, List, [], ◌∷◌, map, length, filter, ◌==◌, bit_and, nat_eq, nat_lt, slice_index_or}
use Rattle.contexts.specs.Relation.{Relation}
use Rattle.contexts.specs.declared.coded_pair.CodedPair.{CodedPair}
use Rattle.lattice.specs.Candidates.{last_of}
use Rattle.lattice.specs.Sets.{range, every, empty}
use Rattle.listings.specs.Candidates.{candidates}
use Rattle.listings.specs.Replies.{candidate_count}

-- The code of a pair among coded pairs, 0 where it is none of them.
abbrev pub code_among : List CodedPair → ℕ → ℕ → ℕ
code_among [] s t = 0
code_among (p ∷ ps) s t = cond (p.left == s && p.right == t) p.code (code_among ps s t)

-- The relation that such lists hold.
unfoldable pub copied : List Bool → List Bool → ℕ → List CodedPair → Relation
copied ls rs k ps = record {
  lefts = length ls;
  rights = length rs;
  conditions = k;
  left_present = λ s. slice_index_or ls s false;
  right_present = λ t. slice_index_or rs t false;
  code = λ s t. cond (slice_index_or ls s false && slice_index_or rs t false) (code_among ps s t) 0;
}

-- Each side has at most 2,048 subjects.
abbrev pub Few : List Bool → List Bool → Type 0
Few ls rs = (length ls ≤ 2048) × (length rs ≤ 2048)

-- Each code is one of k conditions.
abbrev pub all_below : ℕ → List CodedPair → Bool
all_below k ps = every (λ p. nat_lt p.code (2 ^ k)) ps

-- Whether a number is one of a list.
abbrev pub is_among : List ℕ → ℕ → Bool
is_among xs x = cond (empty (filter (nat_eq x) xs)) false true

-- Whether two lists have the same members, in any order and number.
abbrev pub same_members : List ℕ → List ℕ → Bool
same_members xs ys = every (is_among ys) xs && every (is_among xs) ys

-- The codes of coded pairs.
abbrev pub codes_of : List CodedPair → List ℕ
codes_of ps = map (λ (p : CodedPair). p.code) ps

-- How far a listing of c has come.
abbrev pub Reached : Relation → ℕ → ℕ → Bool → Type 0
Reached c last handed ended = (handed ≤ candidate_count c) × (last ≡ last_of (candidates c) handed) × (ended ≡ true → handed ≡ candidate_count c)

-- Those of some coded pairs that x links: every condition of x is one of theirs.
abbrev pub linking : ℕ → List CodedPair → List CodedPair
linking x ps = filter (λ (p : CodedPair). nat_eq (bit_and p.code x) x) ps

-- The left and the right subjects of coded pairs.
abbrev pub subjects_of : List CodedPair → List (ℕ × ℕ)
subjects_of ps = map (λ (p : CodedPair). (p.left, p.right)) ps

-- The subject of a coded pair on each side.
abbrev pub left_of : CodedPair → ℕ
left_of p = p.left

abbrev pub right_of : CodedPair → ℕ
right_of p = p.right

-- Both subjects of a coded pair are below 2,048.
abbrev pub Within : CodedPair → Type 0
Within p = (p.left < 2048) × (p.right < 2048)

-- Whether one of some coded pairs has the subject number n on a side.
abbrev pub is_marked : (CodedPair → ℕ) → List CodedPair → ℕ → Bool
is_marked side ps n = not (empty (filter (λ p. nat_eq (side p) n) ps))

-- How many subject numbers below 2,048 some coded pairs have on a side.
unfoldable pub marked_count : (CodedPair → ℕ) → List CodedPair → ℕ
marked_count side ps = length (filter (is_marked side ps) (range 2048))

-- How many of some marks are set.
abbrev pub marks_set : List Bool → ℕ
marks_set marks = length (filter (λ b. b) marks)
