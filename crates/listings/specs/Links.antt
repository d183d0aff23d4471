-- The links of a set of conditions over a relation.
use Rattle.std.specs.Prelude.{ℕ, Bool, ◌&&◌, List, map, filter}
use Rattle.contexts.specs.Pairs.{pairs, pair_code}
use Rattle.contexts.specs.Relation.{Relation}
use Rattle.lattice.specs.Sets.{includes}

-- Whether both subjects of a pair are present.
unfoldable pub both_present : Relation → ℕ × ℕ → Bool
both_present c p = c.left_present p.0 && c.right_present p.1

-- Whether a pair is a link of the set whose code is x: both are present, and every condition of x holds for them.
unfoldable pub is_link : Relation → ℕ → ℕ × ℕ → Bool
is_link c x p = both_present c p && includes c.conditions x (pair_code c p)

-- The links of x, ascending.
unfoldable pub links : Relation → ℕ → List (ℕ × ℕ)
links c x = filter (is_link c x) (pairs c)

-- The codes of the pairs of present subjects.
unfoldable pub present_codes : Relation → List ℕ
present_codes c = map (pair_code c) (filter (both_present c) (pairs c))
