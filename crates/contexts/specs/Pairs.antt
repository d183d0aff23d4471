-- Pairs of subjects, and those for which a condition holds.
use Rattle.std.specs.Prelude.{ℕ, Bool, not, List, map, filter, ◌==◌}
use Rattle.std.specs.List.{flat_map}
use Rattle.lattice.specs.Sets.{range}
use Rattle.contexts.specs.declared.coded_pair.CodedPair.{CodedPair}
use Rattle.contexts.specs.Relation.{Relation}

-- The pairs of s with each right subject number, ascending.
abbrev pub row : ℕ → ℕ → List (ℕ × ℕ)
row rights s = map (λ t. (s, t)) (range rights)

-- All pairs of a left and a right subject number, ascending by the left, then by the right.
unfoldable pub pairs : Relation → List (ℕ × ℕ)
pairs c = flat_map (row c.rights) (range c.lefts)

-- The code of the conditions that hold for a pair.
abbrev pub pair_code : Relation → ℕ × ℕ → ℕ
pair_code c p = c.code p.0 p.1

-- Whether some condition holds for a pair.
abbrev pub has_code : Relation → ℕ × ℕ → Bool
has_code c p = not (pair_code c p == 0)

-- A pair with its code.
abbrev pub coded : Relation → ℕ × ℕ → CodedPair
coded c p = record { left = p.0; right = p.1; code = pair_code c p }

-- The pairs for which some condition holds, each with its code, in the order of all pairs.
unfoldable pub coded_pairs : Relation → List CodedPair
coded_pairs c = map (coded c) (filter (has_code c) (pairs c))
