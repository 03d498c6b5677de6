-- A key book.
use Rattle.std.specs.Prelude.{ℕ, ◌+◌, ◌*◌, Bool, true, ◌&&◌, List, [], ◌∷◌, eqb, ltb, length}
use Rattle.words.specs.Block.{part}
use Rattle.words.specs.Bytes.{number}
use Rattle.words.specs.Digits.{tab}
use Rattle.words.specs.Search.{place_of}

-- "A key book is a count of two bytes, little-endian,"
unfoldable pub count : List ℕ → ℕ
count book = number (part book 0 2)

-- "then for each entry a class number of two bytes, little-endian,"
unfoldable pub class : List ℕ → ℕ → ℕ
class book i = number (part book (2 + 18 * i) 2)

-- "and a 16-byte key": where that of entry i starts
abbrev pub key_place : ℕ → ℕ
key_place i = 2 + 18 * i + 2

-- the class numbers, in their order
abbrev pub classes : List ℕ → List ℕ
classes book = tab (class book) 0 (count book)

-- do numbers strictly rise
unfoldable pub rising : List ℕ → Bool
rising [] = true
rising (a ∷ []) = true
rising (a ∷ b ∷ s) = ltb a b && rising (b ∷ s)

-- "It is well formed when its length is 2 + 18·count and class numbers strictly rise."
unfoldable pub well_formed : List ℕ → Bool
well_formed book = eqb (length book) (2 + 18 * count book) && rising (classes book)

-- "an entry for the class": which it is, and is there one
abbrev pub entry : ℕ → List ℕ → ℕ
entry c book = place_of c (classes book)

abbrev pub holds : ℕ → List ℕ → Bool
holds c book = ltb (entry c book) (count book)
