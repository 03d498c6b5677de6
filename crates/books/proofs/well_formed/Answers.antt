use Rattle.std.proofs.Common.{rules, tests, refl, nat_lt, ◌-◌}
use Rattle.std.proofs.lemmas.Iterator.{YieldsList-from_range}
use Rattle.std.proofs.lemmas.Iterator.Search.{all_from_yields_List}
use Rattle.books.specs.Books.{class}
use Rattle.books.proofs.Searching.{rising-is, other_length}
use Rattle.books.proofs.well_formed.Goals as goal

pub returns-then-book-from : goal.returns-then-book-from
returns-then-book-from c =
    let book = c.args.book.now in
    let n = c.count_of-n.result in
    rising-is book n _ c.count_of-n.ensures c.from.ensures c.if-book-from.true
    (all_from_yields_List (λ k. nat_lt (class book (k - 1)) (class book k)) _ _ c.all.result c.all.ensures.ran
    (YieldsList-from_range 1 n (n - 1) refl refl) (λ x b q k. search (rules, tests)))

pub returns-else-book-from : goal.returns-else-book-from
returns-else-book-from c =
    other_length c.args.book.now _ _ c.count_of-n.ensures c.from.ensures c.if-book-from.false
