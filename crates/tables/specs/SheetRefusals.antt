use Rattle.records.specs.Refusals.{Refusal}
use Rattle.tables.specs.declared.tick_sheet.SheetFault.{SheetFault}
use Rattle.tables.specs.declared.tick_sheet.SheetFault.TheVariants.{TooManySubjects, TooManyProperties, WrongLength, UnknownPresence, AbsentTicked}

-- The number and the place of each refusal of a tick sheet.
abbrev pub sheet_refusal : SheetFault → Refusal
sheet_refusal TooManySubjects = (2, 0)
sheet_refusal TooManyProperties = (3, 0)
sheet_refusal WrongLength = (8, 0)
sheet_refusal (UnknownPresence s) = (9, s)
sheet_refusal (AbsentTicked s) = (10, s)
