-- The definitions computed on small packs.
use mathlib.Core.Path.{◌≡◌, refl}
use mathlib.Core.List.{List, [], ◌∷◌, ◌++◌}
use Prim.Native.Nat.{ℕ}
use lib.ListN.{replicate}
use Rattle.words.specs.Bytes.{number}
use Rattle.words.specs.Search.{place_of}
use Rattle.pack.specs.Pack.{Word, Song, Shuffle, Done, Refused, BadShuffle}
use Rattle.pack.specs.Pack.{Reading, ends, gives, answer_at, offends, first_from, item, many, counted, shuffle}
use Rattle.pack.specs.Pack.{reading, card_at}
use Rattle.pack.specs.Reader.{told, told_of, is_card, read_at, judged}
use Rattle.pack.specs.Reader.{PackCard}
use Rattle.pack.specs.Reader.{PackJudged}

-- "The bytes 01 03 63 61 74 00 01 00 are a pack with one word, no song."
abbrev pub one : List ℕ
one = 0x01 ∷ 0x03 ∷ 0x63 ∷ 0x61 ∷ 0x74 ∷ 0x00 ∷ 0x01 ∷ 0x00 ∷ []

-- two words, and a song of two bytes where it has them; then what follows
abbrev pub two : List ℕ → List ℕ
two rest = 2 ∷ 1 ∷ 0x61 ∷ 2 ∷ 0x62 ∷ 0x63 ∷ 1 ∷ 2 ∷ 0 ∷ rest

-- what its words and its song give, then what follows
abbrev pub sung : Reading → Reading
sung r = gives (Word 2 1) (gives (Word 4 2) (gives (Song 9 2) r))

pub readings : ◌≡◌ {A = List Reading}
    (
    reading one
    ∷ reading (two (7 ∷ 8 ∷ 2 ∷ 1 ∷ 0 ∷ []))
    ∷ reading []
    ∷ reading (0 ∷ [])
    ∷ reading (13 ∷ [])
    ∷ reading (1 ∷ 41 ∷ 7 ∷ [])
    ∷ reading (1 ∷ 41 ∷ replicate 41 7)
    ∷ reading (1 ∷ 1 ∷ 7 ∷ 2 ∷ [])
    ∷ reading (two (7 ∷ []))
    ∷ reading (two (7 ∷ 8 ∷ 3 ∷ 1 ∷ 0 ∷ []))
    ∷ reading (two (7 ∷ 8 ∷ 3 ∷ 1 ∷ 0 ∷ 2 ∷ []))
    ∷ reading (two (7 ∷ 8 ∷ 2 ∷ 1 ∷ 1 ∷ []))
    ∷ reading (two (7 ∷ 8 ∷ 2 ∷ 2 ∷ 0 ∷ 9 ∷ []))
    ∷ reading (two (7 ∷ 8 ∷ 2 ∷ 0 ∷ 1 ∷ 9 ∷ []))
    ∷ []
    )
    (
    gives (Word 2 3) (gives (Shuffle 7 1) (ends Done))
    ∷ sung (gives (Shuffle 12 2) (ends Done))
    ∷ ends (Refused 12)
    ∷ ends (Refused 13)
    ∷ ends (Refused 13)
    ∷ ends (Refused 12)
    ∷ ends (Refused 13)
    ∷ gives (Word 2 1) (ends (Refused 13))
    ∷ gives (Word 2 1) (gives (Word 4 2) (ends (Refused 12)))
    ∷ sung (ends (Refused 12))
    ∷ sung (ends (Refused 13))
    ∷ sung (ends (BadShuffle 1))
    ∷ sung (ends (BadShuffle 0))
    ∷ sung (gives (Shuffle 12 2) (ends (Refused 15)))
    ∷ []
    )
unfolding number place_of offends first_from item many counted shuffle reading
readings = refl

-- as C has it, at the places 0, 1, 2 and 20
pub answers : ◌≡◌ {A = List PackCard}
    (told (read_at one 0) ∷ told (read_at one 1) ∷ told (read_at one 2) ∷ told (read_at one 20) ∷ [])
    (
    record { number = 0; kind = 1; start = 2; length = 3; bad = 0; next = 1 }
    ∷ record { number = 0; kind = 3; start = 7; length = 1; bad = 0; next = 2 }
    ∷ record { number = 0; kind = 0; start = 0; length = 0; bad = 0; next = 2 }
    ∷ record { number = 0; kind = 0; start = 0; length = 0; bad = 0; next = 20 }
    ∷ []
    )
unfolding number place_of offends first_from item many counted shuffle reading card_at answer_at told_of is_card read_at
answers = refl

pub verdicts : ◌≡◌ {A = List PackJudged}
    (judged one ∷ judged (two (7 ∷ 8 ∷ 2 ∷ 1 ∷ 1 ∷ [])) ∷ judged (one ++ one) ∷ [])
    (
    record { number = 0; cards = 2; bad = 0 }
    ∷ record { number = 14; cards = 3; bad = 1 }
    ∷ record { number = 15; cards = 2; bad = 0 }
    ∷ []
    )
unfolding number place_of offends first_from item many counted shuffle reading told_of judged
verdicts = refl
