-- A register is opened as a file first, and then with the bounds of its own triples.
use Rattle.std.proofs.Common.{◌≡◌, ℕ, List, None, Err, Option, sym, ap, ◌∙◌}
use Rattle.records.specs.Kinds.{triple_of, any_body}
use Rattle.records.specs.Questions.{first_no}
use Rattle.records.specs.Reading.{bodies}
use Rattle.records.specs.Refusals.{Refusal}
use Rattle.records.specs.declared.kinds.triple.Triple.{Triple}
use Rattle.tables.specs.Register.{triples_in, register_fault}
use Rattle.report.specs.Files.{length_fault, file_fault, Opened}
use Rattle.report.specs.Registers.{past_greatest, subject_bound, property_bound, register_file_fault, RegisterOpened}
use Rattle.report.specs.declared.file.OpenError.{OpenError}
use Rattle.report.specs.declared.file.OpenError.TheVariants.{Fault, NoMemory}

-- the bounds that were counted are those of the bytes; ys are the bytes as they were read
pub bound_counted : (number : Triple → ℕ) (xs ys : List ℕ) (ts us : List Triple) (n : ℕ) → ys ≡ xs → ts ≡ bodies triple_of 12 ys → us ≡ ts → n ≡ past_greatest number us → n ≡ past_greatest number (triples_in xs)
unfolding triples_in
bound_counted number xs ys ts us n e t u h =
    h ∙ ap (past_greatest number) (u ∙ t) ∙ ap (λ (v : List ℕ). past_greatest number (bodies triple_of 12 v)) e

-- bytes that pass as a file are refused as a register only
pub passed_as_file : (xs ys : List ℕ) (n m : ℕ) → ys ≡ xs → file_fault triple_of any_body 12 ys ≡ None → n ≡ subject_bound (triples_in xs) → m ≡ property_bound (triples_in xs) → register_file_fault xs ≡ register_fault xs n m
unfolding register_file_fault
passed_as_file xs ys n m e none s p =
    let rest = register_fault xs (subject_bound (triples_in xs)) (property_bound (triples_in xs)) in
    ap (λ (o : Option Refusal). first_no o rest) (ap (file_fault triple_of any_body 12) (sym e) ∙ none)
    ∙ ap (λ (k : ℕ). register_fault xs k (property_bound (triples_in xs))) (sym s)
    ∙ ap (λ (k : ℕ). register_fault xs n k) (sym p)

-- a file that was not opened is no register
pub not_opened : (xs ys : List ℕ) (error : OpenError) → ys ≡ xs → Opened triple_of any_body 12 ys (Err error) → RegisterOpened xs (Err error)
unfolding register_file_fault
not_opened xs ys (Fault e) same h =
    ap (λ (o : Option Refusal). first_no o (register_fault xs (subject_bound (triples_in xs)) (property_bound (triples_in xs)))) (ap (file_fault triple_of any_body 12) (sym same) ∙ h)
not_opened xs ys NoMemory same h = ap (length_fault 12) (sym same) ∙ h
