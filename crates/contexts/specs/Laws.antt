use Rattle.std.specs.Prelude.{◌≡◌, None}
use Rattle.contexts.specs.Book.{book, book_words}
use Rattle.contexts.specs.BookOpening.{book_fault}
use Rattle.contexts.specs.Relation.{Relation, Sound}

-- The words of a sound relation's book are refused by nothing, and mean that relation.
abbrev pub BooksComeBack : Type 0
BooksComeBack =
    (c : Relation) → Sound c → (book_fault (book_words c) c.lefts c.rights c.conditions ≡ None) × (book (book_words c) c.lefts c.rights c.conditions ≡ c)
