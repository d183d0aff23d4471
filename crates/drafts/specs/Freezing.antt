use Rattle.std.specs.Prelude.{ℕ, List, ◌++◌, drop, None, Option, nat_le}
use Rattle.contexts.specs.Book.{book_size, book_words}
use Rattle.contexts.specs.Relation.{Relation}
use Rattle.records.specs.Questions.{ask}
use Rattle.records.specs.Refusals.{Refusal}
use Rattle.drafts.specs.declared.draft.freezing.FreezeFault.{FreezeFault}
use Rattle.drafts.specs.declared.draft.freezing.FreezeFault.TheVariants.{NoSpace}

-- The first no to freezing so many left and right subjects into so many words.
abbrev pub freeze_fault : ℕ → ℕ → ℕ → Option Refusal
freeze_fault lefts rights space = ask (nat_le (book_size lefts rights) space) (19, 0) None

-- How the refusal of a freeze is told.
abbrev pub freeze_refusal : FreezeFault → Refusal
freeze_refusal NoSpace = (19, 0)

-- Words with the book of a relation written from the front, and the words behind it as they were.
abbrev pub frozen : Relation → List ℕ → List ℕ
frozen c words = book_words c ++ drop (book_size c.lefts c.rights) words
