-- A frozen draft is a book that opens.
use Rattle.std.proofs.Common.{◌≡◌, ℕ, Bool, true, cond, List, [], ◌++◌, length, take, drop, Some, None, Result, Ok, Err, refl, sym, ap, ◌∙◌, append-nil, arith}
use Rattle.std.proofs.lemmas.List.{take_at, drop_all}
use Rattle.std.proofs.lemmas.Bool.{cond-true}
use Rattle.std.specs.Result.{IsOk, MatchResult}
use Rattle.contexts.specs.BookMaking.{BookMade, BookRefused}
use Rattle.contexts.specs.BookRefusals.{book_refusal}
use Rattle.contexts.specs.declared.row_book.BookRefusal.{BookRefusal}
use Rattle.contexts.specs.declared.row_book.RowBook.{RowBook}
use Rattle.contexts.specs.Book.{book, book_size, book_words}
use Rattle.contexts.specs.BookOpening.{book_fault}
use Rattle.contexts.specs.Relation.{Relation, Sound}
use Rattle.contexts.proofs.Writing.{length_book, book_comes_back}
use Rattle.drafts.specs.Freezing.{frozen}

-- words of just the size hold the book and nothing else; what stands behind them in the memory of the `Vec` does not count
pub frozen_whole : (c : Relation) (zs ys behind : List ℕ) (n : ℕ) (ok : Bool) → ok ≡ true → ys ≡ cond ok (frozen c zs) zs → length zs ≡ book_size c.lefts c.rights → n ≡ book_size c.lefts c.rights → take n (ys ++ drop (length ys) behind) ≡ book_words c
frozen_whole c zs ys behind n ok so e l k =
    let size = book_size c.lefts c.rights in
    let none : drop size zs ≡ [] = drop_all size zs (omega (arith, l)) in
    let whole : ys ≡ book_words c = e ∙ cond-true ok (frozen c zs) zs so ∙ ap (λ (v : List ℕ). book_words c ++ v) none ∙ append-nil (book_words c) in
    take_at ys (drop (length ys) behind) n (ap length whole ∙ length_book c ∙ sym k) ∙ whole

-- the book of a sound relation opens under its own numbers
pub opens : (c : Relation) → Sound c → (w : List ℕ) (l r k : ℕ) → w ≡ book_words c → l ≡ c.lefts → r ≡ c.rights → k ≡ c.conditions → (book_fault w l r k ≡ None) × (book w l r k ≡ c)
opens c sound w l r k ew el er ek =
    let back = book_comes_back c sound in (
      ap (λ (v : List ℕ). book_fault v l r k) ew ∙ ap (λ (v : ℕ). book_fault (book_words c) v r k) el ∙ ap (λ (v : ℕ). book_fault (book_words c) c.lefts v k) er ∙ ap (book_fault (book_words c) c.lefts c.rights) ek ∙ back.0,
      ap (λ (v : List ℕ). book v l r k) ew ∙ ap (λ (v : ℕ). book (book_words c) v r k) el ∙ ap (λ (v : ℕ). book (book_words c) c.lefts v k) er ∙ ap (book (book_words c) c.lefts c.rights) ek ∙ back.1,
    )

-- what no question refuses is a book
pub accepted : (w : List ℕ) (l r k : ℕ) (a : Result RowBook BookRefusal) → MatchResult a (BookMade w l r k) (BookRefused w l r k) → book_fault w l r k ≡ None → IsOk a
accepted w l r k (Ok b) made none = refl
accepted w l r k (Err e) refused none = let same : Some (book_refusal e.fault) ≡ None = sym refused.first ∙ none in cc
