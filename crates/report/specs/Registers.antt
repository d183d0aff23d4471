use Rattle.std.specs.Prelude.{◌≡◌, ℕ, ◌+◌, max, List, [], ◌∷◌, Some, None, Ok, Err, Option, Result}
use Rattle.records.specs.Kinds.{triple_of, any_body}
use Rattle.records.specs.Questions.{first_no}
use Rattle.records.specs.Refusals.{Refusal}
use Rattle.records.specs.declared.kinds.triple.Triple.{Triple}
use Rattle.tables.specs.Register.{triples_in, register_fault}
use Rattle.tables.specs.RegisterMaking.{RegisterMade}
use Rattle.tables.specs.declared.register.RegisterFile.{RegisterFile}
use Rattle.report.specs.Files.{length_fault, file_fault, file_refusal}
use Rattle.report.specs.declared.file.OpenError.{OpenError}
use Rattle.report.specs.declared.file.OpenError.TheVariants.{Fault, NoMemory}

-- One more than the greatest of the numbers that some triples have, 0 where there are no triples.
abbrev pub past_greatest : (Triple → ℕ) → List Triple → ℕ
past_greatest number [] = 0
past_greatest number (t ∷ ts) = max (number t + 1) (past_greatest number ts)

-- How many subject numbers, and how many properties, a register of these triples has.
abbrev pub subject_bound : List Triple → ℕ
subject_bound ts = past_greatest (λ t. t.subject) ts

abbrev pub property_bound : List Triple → ℕ
property_bound ts = past_greatest (λ t. t.property) ts

-- The first no to the bytes of a register: first as a file, then as a register with the bounds that its own triples need.
unfoldable pub register_file_fault : List ℕ → Option Refusal
register_file_fault xs =
    first_no (file_fault triple_of any_body 12 xs) (register_fault xs (subject_bound (triples_in xs)) (property_bound (triples_in xs)))

-- What opening a register gives: the register file with those bounds where there is no no, else the fault; or no memory, which is never said of a file whose length is refused.
abbrev pub RegisterOpened : List ℕ → Result RegisterFile OpenError → Type 0
RegisterOpened xs (Ok t) =
    (register_file_fault xs ≡ None) × RegisterMade xs (subject_bound (triples_in xs)) (property_bound (triples_in xs)) t
RegisterOpened xs (Err (Fault e)) = register_file_fault xs ≡ Some (file_refusal e)
RegisterOpened xs (Err NoMemory) = length_fault 12 xs ≡ None
