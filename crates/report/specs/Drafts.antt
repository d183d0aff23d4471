use Rattle.std.specs.Prelude.{◌≡◌, ℕ, ◌+◌, List, [], ◌∷◌, length, Some, None, Ok, Err, vec_items, filter, Option, Result, nat_eq}
use Rattle.std.specs.Option.{option_map}
use Rattle.records.specs.Fields.{fields_in}
use Rattle.records.specs.Kinds.{condition_of, kind_number}
use Rattle.records.specs.Questions.{first_no}
use Rattle.records.specs.Reading.{bodies, record_at}
use Rattle.records.specs.Refusals.{Refusal}
use Rattle.records.specs.declared.kinds.condition.Condition.{Condition}
use Rattle.records.specs.declared.kinds.condition.Kind.{Kind}
use Rattle.drafts.specs.Comparisons.{comparison_of}
use Rattle.drafts.specs.Drafting.{draft_fault, with_more}
use Rattle.drafts.specs.declared.comparison.Comparison.{Comparison}
use Rattle.drafts.specs.declared.draft.Draft.{Draft}
use Rattle.tables.specs.declared.register.RegisterFile.{RegisterFile}
use Rattle.report.specs.Files.{length_fault, file_refusal}
use Rattle.report.specs.declared.file.OpenError.{OpenError}
use Rattle.report.specs.declared.file.OpenError.TheVariants.{Fault, NoMemory}

-- Condition number i of a file.
abbrev pub condition_at : List ℕ → ℕ → Condition
condition_at xs i = condition_of (fields_in (record_at 12 i xs))

-- The first no to adding condition number i to the comparisons so far, told at that record.
abbrev pub at_record_fault : ℕ → ℕ → ℕ → List Comparison → Condition → Option Refusal
at_record_fault left_properties right_properties i cs condition =
    option_map (λ (e : Refusal). (e.0, i)) (draft_fault left_properties right_properties cs condition)

-- The first no to adding conditions, numbered from i on, to the comparisons so far.
abbrev pub conditions_fault : ℕ → ℕ → ℕ → List Comparison → List Condition → Option Refusal
conditions_fault left_properties right_properties i cs [] = None
conditions_fault left_properties right_properties i cs (b ∷ bs) =
    first_no (at_record_fault left_properties right_properties i cs b) (conditions_fault left_properties right_properties (i + 1) (with_more cs (comparison_of b)) bs)

-- The comparisons so far with those of conditions behind them.
abbrev pub drafted : List Comparison → List Condition → List Comparison
drafted cs [] = cs
drafted cs (b ∷ bs) = drafted (with_more cs (comparison_of b)) bs

-- The first no to a file of conditions over tables of so many properties: to its length, and then condition by condition.
abbrev pub draft_file_fault : ℕ → ℕ → List ℕ → Option Refusal
draft_file_fault left_properties right_properties xs =
    first_no (length_fault 12 xs) (conditions_fault left_properties right_properties 0 [] (bodies condition_of 12 xs))

-- What opening a draft gives: the draft of all conditions over the two tables where there is no no, else the fault; or no memory, which is never said of a file whose length is refused.
abbrev pub DraftOpened : RegisterFile → RegisterFile → List ℕ → Result (Draft RegisterFile RegisterFile) OpenError → Type 0
DraftOpened left right xs (Ok d) =
    (draft_file_fault left.properties right.properties xs ≡ None) × (d.left ≡ left) × (d.right ≡ right) × (vec_items d.comparisons ≡ drafted [] (bodies condition_of 12 xs))
DraftOpened left right xs (Err (Fault e)) = draft_file_fault left.properties right.properties xs ≡ Some (file_refusal e)
DraftOpened left right xs (Err NoMemory) = length_fault 12 xs ≡ None

-- How many of the comparisons are of a kind.
abbrev pub of_kind : Kind → List Comparison → ℕ
of_kind k cs = length (filter (λ (c : Comparison). nat_eq (kind_number c.kind) (kind_number k)) cs)
