use Rattle.contexts.proofs.Writing.{book_comes_back}
use Rattle.contexts.proofs.laws.books_come_back.Goals as goal

pub returns : goal.returns
returns c = book_comes_back
