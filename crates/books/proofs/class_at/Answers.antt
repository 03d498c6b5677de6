use Rattle.books.specs.Books.{class}
use Rattle.books.proofs.class_at.Goals as goal

pub returns : goal.returns
unfolding class
returns c = rw c.from.ensures at c.two.ensures
