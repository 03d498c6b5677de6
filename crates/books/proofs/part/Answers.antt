use Rattle.std.proofs.Common.{◌+◌, ◌≤◌, length, arith}
use Rattle.words.specs.Lent.{lent}
use Rattle.books.proofs.Handed.{part-fits, part-is, part-none}
use Rattle.books.proofs.part.Goals as goal
use Rattle.books.proofs.part.Goals.{After-pick-book}

-- the part lies within the book
fits : (c : After-pick-book) → c.in-Ok.found.offset + 16 ≤ length c.pick-book.result.now
fits c = part-fits (lent c.args.this_term) (lent c.args.last_term) c.args.class c.in-Ok.ensures c.pick-book.ensures

pub overflow_add-result : goal.overflow_add-result
overflow_add-result c = let h = fits (goal.at.overflow_add-result c).After-pick-book in omega (arith, h)

pub slice_bounds-result-end : goal.slice_bounds-result-end
slice_bounds-result-end c = fits (goal.at.slice_bounds-result-end c).After-pick-book

pub returns-in-Ok : goal.returns-in-Ok
returns-in-Ok c =
    part-is (lent c.args.this_term) (lent c.args.last_term) c.args.class c.in-Ok.ensures c.pick-book.ensures

pub returns-in-Err : goal.returns-in-Err
returns-in-Err c =
    part-none (lent c.args.this_term) (lent c.args.last_term) c.args.class c.in-Err.field-0 c.in-Err.ensures
