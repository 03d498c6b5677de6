use Rattle.std.proofs.Common.{rules, tests, refl, nat_eq, arith}
use Rattle.std.proofs.lemmas.Iterator.{YieldsList-from_range}
use Rattle.std.proofs.lemmas.Iterator.Search.{find_from_yields_List}
use Rattle.books.specs.Books.{class}
use Rattle.books.proofs.Searching.{key-is}
use Rattle.books.proofs.key_in.Goals as goal

pub returns : goal.returns
returns c =
    let a = c.args in
    let n = c.count_of.result in
    key-is a.class a.book.now n c.find.result c.map.result c.count_of.ensures
    (find_from_yields_List (λ k. nat_eq (class a.book.now k) a.class) _ _ c.find.result c.find.ensures.ran
    (YieldsList-from_range 0 n n refl (omega arith)) (λ x b q k. search (rules, tests)))
    (search rules)
