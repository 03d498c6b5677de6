-- The definitions computed on small books.
use mathlib.Core.Path.{◌≡◌, refl}
use mathlib.Core.List.{List, [], ◌∷◌, ◌++◌}
use Prim.Native.Nat.{ℕ, ◌/◌, ◌%◌}
use lib.ListN.{replicate}
use Rattle.words.specs.Bytes.{number}
use Rattle.words.specs.Digits.{tab}
use Rattle.words.specs.Search.{place_of}
use Rattle.answers.specs.Answers.{Answer, answered}
use Rattle.books.specs.Books.{count, class, rising, well_formed}
use Rattle.books.specs.Entry.{Place, finding, handed_back}

-- one entry, for class 7
abbrev pub one : List ℕ
one = 1 ∷ 0 ∷ 7 ∷ 0 ∷ replicate 16 0xA1

-- two, for 7 and for c
abbrev pub two : ℕ → List ℕ
two c = 2 ∷ 0 ∷ 7 ∷ 0 ∷ replicate 16 0xB1 ++ (c % 256 ∷ c / 256 ∷ replicate 16 0xB2)

-- none
abbrev pub none : List ℕ
none = 0 ∷ 0 ∷ []

pub lookups : ◌≡◌ {A = List (Answer Place)}
    (
    finding one (two 256) 7
    ∷ finding none (two 256) 7
    ∷ finding one (two 256) 256
    ∷ finding none none 7
    ∷ finding one (two 256) 0x107
    ∷ finding one (two 6) 7
    ∷ finding [] (two 256) 7
    ∷ finding (two 256) (0 ∷ []) 7
    ∷ finding (0xAA ∷ one) (two 256) 7
    ∷ []
    )
    (
    answered 0 (record { book = 0; offset = 4 })
    ∷ answered 0 (record { book = 1; offset = 4 })
    ∷ answered 0 (record { book = 1; offset = 22 })
    ∷ answered 11 (record { book = 0; offset = 0 })
    ∷ answered 11 (record { book = 0; offset = 0 })
    ∷ answered 10 (record { book = 0; offset = 0 })
    ∷ answered 10 (record { book = 0; offset = 0 })
    ∷ answered 10 (record { book = 0; offset = 0 })
    ∷ answered 10 (record { book = 0; offset = 0 })
    ∷ []
    )
unfolding number tab count class rising well_formed place_of finding
lookups = refl

-- a key of last term's book lies there, 22 bytes on from where the book starts
pub part : handed_back (record { start = (3, 1000); bytes = one }) (record { start = (3, 2000); bytes = two 256 }) 256
    ≡ record { start = (3, 2022); bytes = replicate 16 0xB2 }
unfolding number tab count class rising well_formed place_of finding handed_back
part = refl
