use Rattle.records.specs.Refusals.{Refusal}
use Rattle.contexts.specs.declared.row_book.BookFault.{BookFault}
use Rattle.contexts.specs.declared.row_book.BookFault.TheVariants.{TooLarge, WrongLength, UnknownPresence, WrongCode}

-- The number and the place of each refusal of a row book.
abbrev pub book_refusal : BookFault → Refusal
book_refusal TooLarge = (20, 0)
book_refusal WrongLength = (21, 0)
book_refusal (UnknownPresence i) = (22, i)
book_refusal (WrongCode i) = (23, i)
