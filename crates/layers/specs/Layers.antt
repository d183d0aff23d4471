use Rattle.std.specs.Prelude.{ℕ, Bool, cond, ◌&&◌, List, [], map, length, Some, None, Option}
use Rattle.std.specs.List.{slice_get}
use Rattle.layers.specs.declared.folding_list.Folding.{Folding}
use Rattle.layers.specs.Foldings.{becomes}
use Rattle.tables.specs.Meaning.{Meaning, contains}

-- Whether a subject is of the kind v: it is present, and v is in its list at p.
abbrev pub is_of_kind : Meaning → ℕ → ℕ → ℕ → Bool
is_of_kind t p v s = t.present s && contains (t.values s p) v

-- The kind layer: only the subjects of the kind v are present, and whoever is absent has empty lists.
abbrev pub of_kind : Meaning → ℕ → ℕ → Meaning
of_kind t p v =
    record {
      subjects = t.subjects;
      properties = t.properties;
      present = is_of_kind t p v;
      values = λ s q. cond (is_of_kind t p v s) (t.values s q) [];
    }

-- The folding layer: each value is what it becomes by the entries; lists keep their length and order.
abbrev pub folded_by : Meaning → List Folding → Meaning
folded_by t es =
    record {
      subjects = t.subjects;
      properties = t.properties;
      present = t.present;
      values = λ s p. map (becomes es) (t.values s p);
    }

-- The list of a subject at a pick, and the empty list at none.
abbrev pub list_at_pick : Meaning → ℕ → Option ℕ → List ℕ
list_at_pick t s None = []
list_at_pick t s (Some p) = t.values s p

-- The pick layer: there are as many properties as picks, and property j is the property of pick j below.
abbrev pub picked_by : Meaning → List ℕ → Meaning
picked_by t ps =
    record {
      subjects = t.subjects;
      properties = length ps;
      present = t.present;
      values = λ s j. list_at_pick t s (slice_get ps j);
    }
