-- What the lookup's entry points answer, and which part of a book is handed back.
use Rattle.std.specs.Prelude.{◌≡◌, ℕ, cond, not, ◌||◌, List, [], ◌∷◌, ◌++◌, eqb}
use Rattle.std.specs.Borrow.{Bor}
use Rattle.words.specs.Lent.{Lent, lent, within}
use Rattle.answers.specs.Answers.{Row, Answer, answered, answer}
use Rattle.books.specs.Books.{key_place, well_formed, entry, holds}

-- 10 "either key book badly formed"
abbrev pub badly_formed : List ℕ → List ℕ → List Row
badly_formed thisTerm lastTerm =
    record { applies = not (well_formed thisTerm); number = 10 }
    ∷ record { applies = not (well_formed lastTerm); number = 10 } ∷ []

-- 11 "neither book has an entry for the class"
abbrev pub no_entry : List ℕ → List ℕ → ℕ → List Row
no_entry thisTerm lastTerm c = record { applies = not (holds c thisTerm || holds c lastTerm); number = 11 } ∷ []

-- where a key lies: the book, 0 for this term's and 1 for last term's, and the place in it
pub record Place : Type 0 where
  pub book : ℕ
  pub offset : ℕ

-- where nothing is found
abbrev pub nowhere : Place
nowhere = record { book = 0; offset = 0 }

-- "this term's book wins"
abbrev pub placed : List ℕ → List ℕ → ℕ → Place
placed thisTerm lastTerm c =
    cond (holds c thisTerm) (record { book = 0; offset = key_place (entry c thisTerm) })
    (record { book = 1; offset = key_place (entry c lastTerm) })

-- the number that is answered, and where the key lies then
unfoldable pub finding : List ℕ → List ℕ → ℕ → Answer Place
finding thisTerm lastTerm c =
    answer (badly_formed thisTerm lastTerm ++ no_entry thisTerm lastTerm c) (placed thisTerm lastTerm c) nowhere

abbrev pub Finding : ℕ → List ℕ → List ℕ → ℕ → ℕ → ℕ → Type 0
Finding r thisTerm lastTerm c book offset =
    answered r (record { book = book; offset = offset }) ≡ finding thisTerm lastTerm c

-- ---- "The key handed back is that part of the book itself;"

-- the 16 bytes of the key; where it is refused "an empty part is handed back"
unfoldable pub handed_back : Lent → Lent → ℕ → Lent
handed_back thisTerm lastTerm c =
    let f = finding thisTerm.bytes lastTerm.bytes c in
    within (cond (eqb f.outcome.book 0) thisTerm lastTerm) f.outcome.offset (cond (eqb f.number 0) 16 0)

abbrev pub HandedBack : Bor (List ℕ) → Bor (List ℕ) → Bor (List ℕ) → ℕ → Type 0
HandedBack r thisTerm lastTerm c = lent r ≡ handed_back (lent thisTerm) (lent lastTerm) c
