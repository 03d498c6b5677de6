-- What a lookup answers, as its promise says it.
use Rattle.std.specs.Prelude.{ℕ, Result, Ok, Err}
use Rattle.answers.specs.declared.Refusal.{Refusal}
use Rattle.books.specs.declared.Term.{Term}
use Rattle.books.specs.declared.Term.TheVariants.{This, Last}
use Rattle.books.specs.declared.Found.{Found}

-- a book by its number: 0 this term's, 1 last term's
abbrev pub number_of_book : Term → ℕ
number_of_book This = 0
number_of_book Last = 1

-- the number of the book; 0 where it is refused
abbrev pub book_of : Result Found Refusal → ℕ
book_of (Ok found) = number_of_book found.book
book_of (Err why) = 0

-- the place in it; 0 where it is refused
abbrev pub offset_of : Result Found Refusal → ℕ
offset_of (Ok found) = found.offset
offset_of (Err why) = 0
