use Rattle.std.specs.Prelude.{◌≡◌, ℕ, ◌+◌, ◌-◌, ◌*◌, ◌/◌, ◌<◌, ◌≤◌, List, length, Some, None}
use Rattle.std.specs.List.{slice_get}
use Rattle.records.specs.Fields.{fields_in}
use Rattle.records.specs.Kinds.{triple_of}
use Rattle.records.specs.Reading.{record_at}
use Rattle.records.specs.declared.kinds.triple.Triple.{Triple}
use Rattle.tables.specs.Register.{triples_in, values_of}

-- Triple number k.
unfoldable pub triple_at : List ℕ → ℕ → Triple
triple_at xs k = triple_of (fields_in (record_at 12 k xs))

-- The value of triple number k.
abbrev pub value_at : List ℕ → ℕ → ℕ
value_at xs k = (triple_at xs k).value

-- The place of the triple of a record in the order of subjects and properties, where properties are below 64.
abbrev pub key_in : List ℕ → ℕ
key_in r = let t = triple_of (fields_in r) in t.subject * 64 + t.property

-- The place of triple number k in that order.
abbrev pub key_at : List ℕ → ℕ → ℕ
key_at xs k = (triple_at xs k).subject * 64 + (triple_at xs k).property

-- The keys never fall.
abbrev pub Rising : List ℕ → Type 0
Rising xs = (j k : ℕ) → j ≤ k → k < length xs / 12 → key_at xs j ≤ key_at xs k

-- The triples of subject s and property p are those numbered from low on and below high.
pub record Span (xs : List ℕ) (s p low high : ℕ) : Type 0 where
  pub upward : low ≤ high
  pub inside : high ≤ length xs / 12
  pub count : high - low ≡ length (values_of (triples_in xs) s p)
  pub entry : (i : ℕ) → i < high - low → Some (value_at xs (low + i)) ≡ slice_get (values_of (triples_in xs) s p) i
  pub past : (i : ℕ) → high - low ≤ i → None ≡ slice_get (values_of (triples_in xs) s p) i
