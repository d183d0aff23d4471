use Rattle.records.specs.Refusals.{Refusal}
use Rattle.tables.specs.declared.register.RegisterFault.{RegisterFault}
use Rattle.tables.specs.declared.register.RegisterFault.TheVariants.{CutShort, TooManySubjects, TooManyProperties, TooManyRecords, UnknownSubject, UnknownProperty, OutOfOrder}

-- The number and the place of each refusal of a register file.
abbrev pub register_refusal : RegisterFault → Refusal
register_refusal CutShort = (1, 0)
register_refusal TooManySubjects = (2, 0)
register_refusal TooManyProperties = (3, 0)
register_refusal TooManyRecords = (4, 0)
register_refusal (UnknownSubject k) = (5, k)
register_refusal (UnknownProperty k) = (6, k)
register_refusal (OutOfOrder k) = (7, k)
