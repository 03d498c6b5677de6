-- A sealed card, laid out as on a shelf of K11: "a 12-byte nonce, a two-byte little-endian length, the ciphertext and
-- its tag".
use Rattle.std.specs.Prelude.{ℕ, ◌+◌, ◌≡◌, false, not, List, [], ◌∷◌, ◌++◌, eqb, ltb, length, drop}
use Rattle.words.specs.Block.{part}
use Rattle.words.specs.Bytes.{number, bytes, over}
use Rattle.answers.specs.Answers.{Row, Answer, answered, refuse, answer}
use Rattle.hyena.specs.Entry as hyena
use Rattle.hyena.specs.Entry.{Inputs, inputs, output_of, tag_of, gift}

unfoldable pub card_of : Inputs → List ℕ
card_of i = i.nonce ++ bytes 2 (length i.text) ++ output_of gift false i ++ tag_of gift false i

-- ---- sealing

-- of the five lengths: 1 "key has a wrong length", 2 "nonce or iv has a wrong length", 3 "associated data too long", 4
-- "text or block length not allowed" (two bytes count to 65,535), 6 "room too short" for the text and the 30 bytes
-- around it
abbrev pub seal_rows : ℕ → ℕ → ℕ → ℕ → ℕ → List Row
seal_rows key nonce «data» text room =
    record { applies = not (eqb key 16); number = 1 }
    ∷ record { applies = not (eqb nonce 12); number = 2 }
    ∷ record { applies = ltb 65536 «data»; number = 3 }
    ∷ record { applies = ltb 65535 text; number = 4 }
    ∷ record { applies = ltb room (text + 30); number = 6 }
    ∷ []

-- the number that is answered, and what the room holds then
unfoldable pub sealing : Inputs → List ℕ → Answer (List ℕ)
sealing i room =
    answer (seal_rows (length i.key) (length i.nonce) (length i.«data») (length i.text) (length room))
    (over (card_of i) room) room

abbrev pub Sealing : ℕ → Inputs → List ℕ → List ℕ → Type 0
Sealing r i room room' = answered r room' ≡ sealing i room

-- ---- opening

-- the length that a card says its text has, and its parts
unfoldable pub length_in : List ℕ → ℕ
length_in card = number (part card 12 2)

abbrev pub nonce_in : List ℕ → List ℕ
nonce_in card = part card 0 12

abbrev pub ciphertext_in : List ℕ → List ℕ
ciphertext_in card = part card 14 (length_in card)

abbrev pub tag_in : List ℕ → List ℕ
tag_in card = drop (14 + length_in card) card

-- of the lengths, the text's being the one that the card says: 1 and 3 as above, 12 "cut short", 15 "bytes left over",
-- and 6 as above, last, since only a whole card says how long a room must be
abbrev pub open_rows : ℕ → ℕ → ℕ → ℕ → ℕ → List Row
open_rows key «data» card text room =
    record { applies = not (eqb key 16); number = 1 }
    ∷ record { applies = ltb 65536 «data»; number = 3 }
    ∷ record { applies = ltb card (text + 30); number = 12 }
    ∷ record { applies = ltb (text + 30) card; number = 15 }
    ∷ record { applies = ltb room text; number = 6 }
    ∷ []

-- a card that is whole is opened: 7, or its text
unfoldable pub opening : List ℕ → List ℕ → List ℕ → List ℕ → Answer (List ℕ)
opening key «data» card room =
    refuse (open_rows (length key) (length «data») (length card) (length_in card) (length room)) room
    (hyena.opening gift (inputs key (nonce_in card) «data» (ciphertext_in card)) (tag_in card) room)

abbrev pub Opening : ℕ → List ℕ → List ℕ → List ℕ → List ℕ → List ℕ → Type 0
Opening r key «data» card room room' = answered r room' ≡ opening key «data» card room
