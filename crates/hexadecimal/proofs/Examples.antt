-- The definitions computed on small texts in hex.
use mathlib.Core.Path.{◌≡◌, refl}
use mathlib.Core.Bool.{true, false}
use mathlib.Core.List.{List, [], ◌∷◌}
use Prim.Native.Nat.{ℕ}
use Rattle.std.specs.Prelude.{Some, None, Ok, Err}
use Rattle.words.specs.Bytes.{over}
use Rattle.answers.specs.declared.Refusal.TheVariants.{RoomLength}
use Rattle.hexadecimal.specs.declared.Hex.{Hex}
use Rattle.hexadecimal.specs.Hex.{glyph, digits_of, written, word_of, showing, meaning, Reading, start, taken_byte}
use Rattle.hexadecimal.specs.Hex.{taken_in}

-- a text, read into room for two bytes
abbrev taken : List ℕ → Reading
taken text = taken_in text (record { hex = start; room = 0 ∷ 0 ∷ [] })

abbrev left : List ℕ → Hex → Reading
left room hex = record { hex = hex; room = room }

-- "0aF f\n" is 0a and ff; "0a0" waits for a digit; "0g" is no hex; of "0a0b0c" there is no room for the third
pub hexes : (taken (48 ∷ 97 ∷ 70 ∷ 32 ∷ 102 ∷ 10 ∷ [])
    ≡ left (10 ∷ 255 ∷ []) (record { good = true; high = None; len = 2 }))
    × (taken (48 ∷ 97 ∷ 48 ∷ []) ≡ left (10 ∷ 0 ∷ []) (record { good = true; high = Some 0; len = 1 }))
    × (taken (48 ∷ 103 ∷ []) ≡ left (0 ∷ 0 ∷ []) (record { good = false; high = Some 0; len = 0 }))
    × (taken (48 ∷ 97 ∷ 48 ∷ 98 ∷ 48 ∷ 99 ∷ [])
    ≡ left (10 ∷ 11 ∷ []) (record { good = true; high = None; len = 2 }))
unfolding taken_in taken_byte meaning
hexes = (refl, refl, refl, refl)

-- a byte is written in lower case, the high digit first
pub spelt : written (10 ∷ 255 ∷ []) ≡ 48 ∷ 97 ∷ 102 ∷ 102 ∷ []
unfolding written digits_of glyph
spelt = refl

-- no bytes are shown as `-`
pub shown : (showing (10 ∷ []) (1 ∷ 2 ∷ 3 ∷ []) ≡ (Ok 2, 48 ∷ 97 ∷ 3 ∷ []))
    × (showing [] (1 ∷ 2 ∷ []) ≡ (Ok 1, 45 ∷ 2 ∷ []))
    × (showing (10 ∷ []) (1 ∷ []) ≡ (Err RoomLength, 1 ∷ []))
unfolding showing word_of written digits_of glyph over
shown = (refl, refl, refl)
