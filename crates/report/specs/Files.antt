use Rattle.std.specs.Prelude.{◌≡◌, ℕ, ◌+◌, ◌%◌, Bool, List, [], ◌∷◌, length, Some, None, Ok, Err, vec_items, Option, Result, Vec, ◌==◌, nat_le}
use Rattle.std.specs.declared.alloc.Global.{Global}
use Rattle.records.specs.Questions.{ask, first_no}
use Rattle.records.specs.Reading.{bodies}
use Rattle.records.specs.Refusals.{Refusal, read_refusal}
use Rattle.drafts.specs.Drafting.{draft_refusal}
use Rattle.tables.specs.RegisterRefusals.{register_refusal}
use Rattle.report.specs.declared.file.FileFault.{FileFault}
use Rattle.report.specs.declared.file.FileFault.TheVariants.{TooLong, Ragged, Unread, Unregistered, Undrafted}
use Rattle.report.specs.declared.file.OpenError.{OpenError}
use Rattle.report.specs.declared.file.OpenError.TheVariants.{Fault, NoMemory}

-- A file: 4 where it is too long, 1 where its length is no multiple of the record's size, else the refusal of a record, of the register, or of the draft at a record.
abbrev pub file_refusal : FileFault → Refusal
file_refusal TooLong = (4, 0)
file_refusal Ragged = (1, 0)
file_refusal (Unread e) = read_refusal e
file_refusal (Unregistered e) = register_refusal e
file_refusal (Undrafted i e) = ((draft_refusal e).0, i)

-- The first of some bodies that its kind does not allow gives 30, with its number; i is the number of the first.
abbrev pub body_fault : {B : Type 0} → (B → Bool) → ℕ → List B → Option Refusal
body_fault allowed i [] = None
body_fault allowed i (b ∷ bs) = ask (allowed b) (30, i) (body_fault allowed (i + 1) bs)

-- The first no to the length of a file: at most 65,532 bytes, and a multiple of the record's size.
abbrev pub length_fault : ℕ → List ℕ → Option Refusal
length_fault size xs = ask (nat_le (length xs) 65532) (4, 0) (ask (length xs % size == 0) (1, 0) None)

-- The first no to a file: to its length, and then to a body that its kind does not allow.
abbrev pub file_fault : {B : Type 0} → (List ℕ → B) → (B → Bool) → ℕ → List ℕ → Option Refusal
file_fault made allowed size xs =
    first_no (length_fault size xs) (body_fault allowed 0 (bodies made size xs))

-- What opening a file gives: its bodies where there is no no, else the fault; or no memory, which is never said of a file whose length is refused.
abbrev pub Opened : {B : Type 0} → (List ℕ → B) → (B → Bool) → ℕ → List ℕ → Result (Vec B Global) OpenError → Type 0
Opened made allowed size xs (Ok v) = (file_fault made allowed size xs ≡ None) × (vec_items v ≡ bodies made size xs)
Opened made allowed size xs (Err (Fault e)) = file_fault made allowed size xs ≡ Some (file_refusal e)
Opened made allowed size xs (Err NoMemory) = length_fault size xs ≡ None

-- What a program goes on with: what was opened, or nothing where the file was refused; never with want of memory.
abbrev pub Accepted : {T : Type 0} → Result T OpenError → Option T → Type 0
Accepted (Ok t) o = o ≡ Some t
Accepted (Err (Fault e)) o = o ≡ None
Accepted (Err NoMemory) o = ⊥
