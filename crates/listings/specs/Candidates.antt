-- The candidates of a relation.
use Rattle.std.specs.Prelude.{ℕ, ◌^◌, Bool, not, ◌&&◌, List, filter, ◌==◌}
use Rattle.contexts.specs.Pairs.{pair_code}
use Rattle.contexts.specs.Relation.{Relation}
use Rattle.lattice.specs.Sets.{range, every, empty, has, code_of}
use Rattle.listings.specs.Links.{links}

-- The widening of x: every condition that all its links have, and so the whole draft where it has no link.
unfoldable pub widening : Relation → ℕ → ℕ
widening c x = code_of c.conditions (λ i. every (λ p. has c.conditions (pair_code c p) i) (links c x))

-- Whether x is a candidate: it has a condition, equals its widening, and has a link.
unfoldable pub is_candidate : Relation → ℕ → Bool
is_candidate c x = not (x == 0) && widening c x == x && not (empty (links c x))

-- The candidates, ascending.
unfoldable pub candidates : Relation → List ℕ
candidates c = filter (is_candidate c) (range (2 ^ c.conditions))
