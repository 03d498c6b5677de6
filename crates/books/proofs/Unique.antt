-- Each public function's promise allows one result.
use mathlib.Core.Path.{◌≡◌, refl, sym, ap, ◌∙◌}
use mathlib.Core.Bool.{cond}
use mathlib.Core.List.{List, [], ◌++◌}
use Prim.Native.Nat.{ℕ}
use lib.Dec.{eqb}
use denote.Ref.{Bor}
use Rattle.words.specs.Lent.{lent}
use Rattle.std.specs.Prelude.{Result, Ok}
use Rattle.answers.specs.declared.Refusal.{Refusal}
use Rattle.answers.specs.Told.{told}
use Rattle.answers.specs.Answers.{applying, smallest}
use Rattle.answers.proofs.Answers.{same_answer, least-answered}
use Rattle.answers.proofs.Unique.{answer-told}
use Rattle.words.proofs.Unique.{same}
use Rattle.books.specs.declared.Term.{Term}
use Rattle.books.specs.declared.Term.TheVariants.{This, Last}
use Rattle.books.specs.declared.Found.{Found}
use Rattle.books.specs.Entry.{badly_formed, no_entry, Place, finding, Finding, HandedBack}
use Rattle.books.specs.Found.{number_of_book, book_of, offset_of}

pub find-unique : (thisTerm lastTerm : List ℕ) (c : ℕ) {m n b d p q : ℕ} → Finding m thisTerm lastTerm c b p
    → Finding n thisTerm lastTerm c d q
    → (m ≡ n) × (◌≡◌ {A = Place} (record { book = b; offset = p }) (record { book = d; offset = q }))
find-unique thisTerm lastTerm c = same_answer

-- the same of what the function answers
pub find-answer-unique : (thisTerm lastTerm : List ℕ) (c : ℕ) (r s : Result Found Refusal)
    → Finding (told r) thisTerm lastTerm c (book_of r) (offset_of r)
    → Finding (told s) thisTerm lastTerm c (book_of s) (offset_of s) → r ≡ s
find-answer-unique thisTerm lastTerm c r s p q = let e = same_answer p q in answer-told place tells r s e.0 e.1
  where
    place : Result Found Refusal → Place
    place r = record { book = book_of r; offset = offset_of r }

    found : Place → Found
    found p = record { book = cond (eqb p.book 0) This Last; offset = p.offset }

    back : (t : Term) → cond (eqb (number_of_book t) 0) This Last ≡ t
    back This = refl
    back Last = refl

    found-is : (x : Found) → found (place (Ok x)) ≡ x
    found-is x = ap (λ (t : Term). record { book = t; offset = x.offset }) (back x.book)

    tells : (x y : Found) → place (Ok x) ≡ place (Ok y) → x ≡ y
    tells x y f = sym (found-is x) ∙ ap found f ∙ found-is y

-- the number alone
pub number-unique : (thisTerm lastTerm : List ℕ) (c : ℕ) {m n : ℕ} → m ≡ (finding thisTerm lastTerm c).number
    → n ≡ (finding thisTerm lastTerm c).number → m ≡ n
number-unique thisTerm lastTerm c = same

-- the same bytes at the same place of memory
pub part-unique : (thisTerm lastTerm r s : Bor (List ℕ)) (c : ℕ) → HandedBack r thisTerm lastTerm c
    → HandedBack s thisTerm lastTerm c → lent r ≡ lent s
part-unique thisTerm lastTerm r s c = same

-- the number is the smallest that applies
pub finding-least : (thisTerm lastTerm : List ℕ) (c : ℕ) → (finding thisTerm lastTerm c).number
    ≡ smallest (applying (badly_formed thisTerm lastTerm ++ no_entry thisTerm lastTerm c))
unfolding finding
finding-least thisTerm lastTerm c =
    least-answered _ _ [] refl (badly_formed thisTerm lastTerm ++ no_entry thisTerm lastTerm c) tt
