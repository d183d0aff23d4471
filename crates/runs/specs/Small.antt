-- Two small registers as files, and what is listed of them by hand: two properties, three subjects on each side, and eight conditions, equal and then share for each pair of properties.
use Rattle.std.specs.Prelude.{◌≡◌, ℕ, List, [], ◌∷◌, map}
use Rattle.std.specs.List.{flat_map}
use Rattle.contexts.specs.Pairs.{pairs, pair_code}
use Rattle.contexts.specs.Relation.{Relation}
use Rattle.drafts.specs.Live.{live}
use Rattle.drafts.specs.declared.comparison.Comparison.{Comparison}
use Rattle.listings.specs.Candidates.{widening, candidates}
use Rattle.listings.specs.Counts.{candidate_body}
use Rattle.records.specs.Fields.{bytes_of}
use Rattle.records.specs.Kinds.{triple_fields, candidate_fields}
use Rattle.records.specs.declared.kinds.condition.Kind.TheVariants.{Equal, Share}
use Rattle.records.specs.declared.kinds.triple.Triple.{Triple}
use Rattle.tables.specs.Register.{register}

-- A triple of subject, property and value.
abbrev pub triple : ℕ → ℕ → ℕ → Triple
triple s p v = record { subject = s; property = p; value = v }

-- The goods found.
abbrev pub found : List Triple
found = triple 0 0 1 ∷ triple 0 1 10 ∷ triple 0 1 11 ∷ triple 1 0 1 ∷ triple 1 0 2 ∷ triple 1 1 10 ∷ triple 2 1 12 ∷ []

-- The losses reported.
abbrev pub reported : List Triple
reported = triple 0 0 1 ∷ triple 0 1 10 ∷ triple 1 0 1 ∷ triple 1 0 2 ∷ triple 1 1 10 ∷ triple 1 1 11 ∷ triple 2 0 3 ∷ triple 2 1 12 ∷ []

-- The file of some triples.
abbrev pub file_of : List Triple → List ℕ
file_of ts = flat_map (λ t. bytes_of (triple_fields t)) ts

-- Equal and then share for a left and a right property.
abbrev pub both_kinds : ℕ → ℕ → List Comparison
both_kinds p q = record { kind = Equal; left = p; right = q } ∷ record { kind = Share; left = p; right = q } ∷ []

-- The conditions.
abbrev pub eight_conditions : List Comparison
eight_conditions = flat_map (λ p. flat_map (both_kinds p) (0 ∷ 1 ∷ [])) (0 ∷ 1 ∷ [])

-- The relation of the two files by these conditions.
abbrev pub small_registers : Relation
small_registers = live (register (file_of found) 3 2) (register (file_of reported) 3 2) eight_conditions

-- The questions: the code of each pair, the widenings of 64, of 128 and of 32, which has no link, the candidates, and the fields of the record of code 1.
abbrev pub questions : List (List ℕ)
questions =
    map (pair_code small_registers) (pairs small_registers) ∷ map (widening small_registers) (64 ∷ 128 ∷ 32 ∷ []) ∷ candidates small_registers ∷ candidate_fields (candidate_body small_registers 1) ∷ []

-- The answers. The record of code 1 has 5 links, 3 and 3 linked, 3 and 3 present, and 1 condition.
abbrev pub answers_by_hand : List (List ℕ)
answers_by_hand = (193 ∷ 67 ∷ 0 ∷ 67 ∷ 193 ∷ 0 ∷ 0 ∷ 0 ∷ 3 ∷ []) ∷ (65 ∷ 193 ∷ 255 ∷ []) ∷ (1 ∷ 3 ∷ 65 ∷ 67 ∷ 193 ∷ []) ∷ (1 ∷ 0 ∷ 5 ∷ 3 ∷ 3 ∷ 3 ∷ 3 ∷ 1 ∷ []) ∷ []

-- From the bytes of the files to the record of a candidate, the definitions give what was counted by hand.
abbrev pub SmallRegistersAreListed : Type 0
SmallRegistersAreListed = questions ≡ answers_by_hand
