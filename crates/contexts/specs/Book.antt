use Rattle.std.specs.Prelude.{ℕ, ◌+◌, ◌*◌, Bool, cond, ◌&&◌, List, ◌++◌, map, ◌==◌, nat_lt, slice_index}
use Rattle.std.specs.List.{flat_map}
use Rattle.lattice.specs.Sets.{range}
use Rattle.contexts.specs.Relation.{Relation}

-- The word of a subject: 1 if it is present, else 0.
abbrev pub presence_word : Bool → ℕ
presence_word present = cond present 1 0

-- How many words a book of so many left and right subjects has.
abbrev pub book_size : ℕ → ℕ → ℕ
book_size lefts rights = lefts + rights + lefts * rights

-- The words of a relation's book: the left presence words, the right ones, and the codes of all pairs, row by row.
unfoldable pub book_words : Relation → List ℕ
book_words c =
    map (λ s. presence_word (c.left_present s)) (range c.lefts)
    ++ (map (λ t. presence_word (c.right_present t)) (range c.rights)
    ++ flat_map (λ s. map (c.code s) (range c.rights)) (range c.lefts))

-- The word of pair (s, t) stands at s × R + t behind the presence words.
abbrev pub pair_place : ℕ → ℕ → ℕ → ℕ → ℕ
pair_place lefts rights s t = lefts + rights + (s * rights + t)

-- What words mean as a book of so many left and right subjects and conditions.
abbrev pub book : List ℕ → ℕ → ℕ → ℕ → Relation
book words lefts rights conditions = record {
  lefts = lefts;
  rights = rights;
  conditions = conditions;
  left_present = λ s. nat_lt s lefts && (slice_index words s == 1);
  right_present = λ t. nat_lt t rights && (slice_index words (lefts + t) == 1);
  code = λ s t. cond (nat_lt s lefts && nat_lt t rights) (slice_index words (pair_place lefts rights s t)) 0;
}
