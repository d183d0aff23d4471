use Rattle.std.specs.Prelude.{◌≡◌, ℕ, List, Some, None, vec_items}
use Rattle.contexts.specs.declared.row_book.BookRefusal.{BookRefusal}
use Rattle.contexts.specs.declared.row_book.RowBook.{RowBook}
use Rattle.contexts.specs.Book.{book}
use Rattle.contexts.specs.BookOpening.{book_fault}
use Rattle.contexts.specs.BookRefusals.{book_refusal}
use Rattle.contexts.specs.Relation.{Relation}

-- The relation that a row book means.
abbrev pub relation_of_book : RowBook → Relation
relation_of_book b = book (vec_items b.words) b.lefts b.rights b.conditions

-- A row book is made where nothing refuses it, and holds just what was given.
pub record BookMade (words : List ℕ) (lefts rights conditions : ℕ) (b : RowBook) : Type 0 where
  pub unrefused : book_fault words lefts rights conditions ≡ None
  pub same_words : vec_items b.words ≡ words
  pub meaning : relation_of_book b ≡ book words lefts rights conditions

-- Words are refused by the first no, and handed back unchanged.
pub record BookRefused (words : List ℕ) (lefts rights conditions : ℕ) (e : BookRefusal) : Type 0 where
  pub first : book_fault words lefts rights conditions ≡ Some (book_refusal e.fault)
  pub handed_back : vec_items e.words ≡ words
