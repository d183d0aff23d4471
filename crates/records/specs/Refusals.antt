use Rattle.std.specs.Prelude.{ℕ, Ok, Err, Result}
use Rattle.records.specs.declared.fault.ReadFault.{ReadFault}
use Rattle.records.specs.declared.fault.ReadFault.TheVariants.{CutShort, UnknownKind}
use Rattle.records.specs.declared.fault.WriteFault.{WriteFault}
use Rattle.records.specs.declared.fault.WriteFault.TheVariants as writing
use Rattle.records.specs.declared.fault.TripFault.{TripFault}
use Rattle.records.specs.declared.fault.TripFault.TheVariants.{Reading, Writing}

-- A refusal as it is told: its number, and the place that it is about.
abbrev pub Refusal : Type 0
Refusal = ℕ × ℕ

-- An answer with its fault told as a refusal.
abbrev pub told : {A E : Type 0} → (E → Refusal) → Result A E → Result A Refusal
told refusal (Ok a) = Ok a
told refusal (Err e) = Err (refusal e)

-- Reading record i: 29 where the whole of it does not lie in the bytes, 30 where it is a condition of no known kind.
abbrev pub read_refusal : ReadFault → Refusal
read_refusal (CutShort i) = (29, i)
read_refusal (UnknownKind i) = (30, i)

-- Writing a record: 24 where the whole of it does not lie from the offset on, 30 where it is a condition of no known kind.
abbrev pub write_refusal : WriteFault → Refusal
write_refusal writing.NoSpace = (24, 0)
write_refusal writing.UnknownKind = (30, 0)

-- Reading a record and writing it: the refusal of the one or of the other.
abbrev pub trip_refusal : TripFault → Refusal
trip_refusal (Reading e) = read_refusal e
trip_refusal (Writing e) = write_refusal e
