use Rattle.std.specs.Prelude.{ℕ, not, List, [], ◌∷◌, ◌++◌, length, Some, None, Option, nat_lt}
use Rattle.std.specs.List.{list_any}
use Rattle.records.specs.Questions.{ask}
use Rattle.records.specs.Refusals.{Refusal}
use Rattle.records.specs.declared.kinds.condition.Condition.{Condition}
use Rattle.drafts.specs.Comparisons.{comparison_of, same_comparison}
use Rattle.drafts.specs.declared.comparison.Comparison.{Comparison}
use Rattle.drafts.specs.declared.draft.DraftFault.{DraftFault}
use Rattle.drafts.specs.declared.draft.DraftFault.TheVariants.{UnknownKind, UnknownLeft, UnknownRight, Repeated, Full}

-- The first no to one more comparison over tables of so many properties.
abbrev pub comparison_fault : ℕ → ℕ → List Comparison → Comparison → Option Refusal
comparison_fault left_properties right_properties cs c =
    ask (nat_lt c.left left_properties) (15, 0)
    (ask (nat_lt c.right right_properties) (16, 0)
    (ask (not (list_any (same_comparison c) cs)) (17, 0)
    (ask (nat_lt (length cs) 64) (18, 0)
    None)))

-- The first no to what a condition asks for, which is nothing where its kind is not known.
abbrev pub asked_fault : ℕ → ℕ → List Comparison → Option Comparison → Option Refusal
asked_fault left_properties right_properties cs None = Some (30, 0)
asked_fault left_properties right_properties cs (Some c) = comparison_fault left_properties right_properties cs c

-- The first no to one more condition: its kind is asked first.
abbrev pub draft_fault : ℕ → ℕ → List Comparison → Condition → Option Refusal
draft_fault left_properties right_properties cs condition = asked_fault left_properties right_properties cs (comparison_of condition)

-- The comparisons with one more at the end.
abbrev pub with_more : List Comparison → Option Comparison → List Comparison
with_more cs None = cs
with_more cs (Some c) = cs ++ c ∷ []

-- How each refusal of a condition is told.
abbrev pub draft_refusal : DraftFault → Refusal
draft_refusal UnknownKind = (30, 0)
draft_refusal UnknownLeft = (15, 0)
draft_refusal UnknownRight = (16, 0)
draft_refusal Repeated = (17, 0)
draft_refusal Full = (18, 0)
