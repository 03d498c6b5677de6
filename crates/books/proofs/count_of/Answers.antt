use Rattle.books.specs.Books.{count}
use Rattle.books.proofs.count_of.Goals as goal

pub returns : goal.returns
unfolding count
returns c = c.two.ensures
