use Rattle.std.specs.Prelude.{ℕ, Bool, not, ◌&&◌, List}
use Rattle.std.specs.List.{list_any, list_all}
use Rattle.lattice.specs.Sets.{empty}
use Rattle.tables.specs.Meaning.{contains}

-- Whether some value of the one list is in the other.
abbrev pub shares : List ℕ → List ℕ → Bool
shares xs ys = list_any (contains ys) xs

-- Whether every value of the one list is in the other.
abbrev pub within : List ℕ → List ℕ → Bool
within xs ys = list_all (contains ys) xs

-- Whether every value of each list is in the other, and there is at least one value.
abbrev pub equals : List ℕ → List ℕ → Bool
equals xs ys = not (empty xs) && (within xs ys && within ys xs)
