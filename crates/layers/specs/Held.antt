use Rattle.std.specs.Prelude.{ℕ, List, vec_items}
use Rattle.layers.specs.declared.folding_list.Folding.{Folding}
use Rattle.layers.specs.declared.folding_list.FoldingList.{FoldingList}
use Rattle.layers.specs.declared.picks.Picks.{Picks}

-- The entries that a folding list holds.
abbrev pub foldings : FoldingList → List Folding
foldings l = vec_items l.entries

-- The property numbers that are picked.
abbrev pub picked : Picks → List ℕ
picked ps = vec_items ps.numbers
