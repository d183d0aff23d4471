use Rattle.std.specs.Prelude.{◌≡◌, ℕ, ◌≤◌, true, List, [], Some}
use Rattle.std.specs.List.{slice_get}
use Rattle.layers.specs.declared.folding_list.Folding.{Folding}
use Rattle.layers.specs.Layers.{of_kind, folded_by, picked_by}
use Rattle.tables.specs.Meaning.{Meaning, Sound}

-- Folding twice by the same entries is folding once.
abbrev pub FoldingSettles : List Folding → Type 0
FoldingSettles es = (t : Meaning) → folded_by (folded_by t es) es ≡ folded_by t es

-- The kind layer makes nobody present, and leaves the lists of whoever stays present as they are.
abbrev pub KindNarrows : Type 0
KindNarrows =
    (t : Meaning) (p v s : ℕ) → (of_kind t p v).present s ≡ true → (t.present s ≡ true) × ((q : ℕ) → (of_kind t p v).values s q ≡ t.values s q)

-- Asking for the same kind twice is asking once.
abbrev pub KindSettles : Type 0
KindSettles = (t : Meaning) (p v : ℕ) → of_kind (of_kind t p v) p v ≡ of_kind t p v

-- A pick has the lists of its property below, and empty ones where that is out of range.
abbrev pub PickFollows : Type 0
PickFollows =
    (t : Meaning) (ps : List ℕ) (s j p : ℕ) → slice_get ps j ≡ Some p → ((picked_by t ps).values s j ≡ t.values s p) × (Sound t → t.properties ≤ p → (picked_by t ps).values s j ≡ [])
