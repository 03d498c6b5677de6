-- Bytes in hex: how they are written, and how a text is read, which may come in pieces.
use Rattle.std.specs.Prelude.{◌≡◌, ℕ, ◌+◌, ◌-◌, ◌*◌, ◌/◌, ◌%◌, true, false, cond, List, [], ◌∷◌, ◌++◌, eqb, ltb, length}
use Rattle.std.specs.Prelude.{set, Option, Some, None, Result, Ok, Err}
use Rattle.words.specs.Bytes.{over}
use Rattle.answers.specs.Answers.{Answer, answered, answer}
use Rattle.answers.specs.declared.Refusal.{Refusal}
use Rattle.answers.specs.declared.Refusal.TheVariants.{RoomLength}
use Rattle.hexadecimal.specs.declared.Hex.{Hex}
use Rattle.hexadecimal.specs.declared.Meaning.{Meaning}
use Rattle.hexadecimal.specs.declared.Meaning.TheVariants.{Digit, White, Other}

-- ---- writing

-- the digit of a value below 16: 0 to 9, then a to f
unfoldable pub glyph : ℕ → ℕ
glyph d = cond (ltb d 10) (d + 48) (d + 87)

-- the two digits of a byte, the high one first
unfoldable pub digits_of : ℕ → List ℕ
digits_of b = glyph (b / 16) ∷ glyph (b % 16) ∷ []

unfoldable pub written : List ℕ → List ℕ
written [] = []
written (b ∷ s) = digits_of b ++ written s

-- the number that is answered, and what the room holds then; 6 "room too short"
unfoldable pub spelling : List ℕ → List ℕ → Answer (List ℕ)
spelling s room =
    answer (record { applies = ltb (length room) (2 * length s); number = 6 } ∷ []) (over (written s) room) room

abbrev pub Spelling : ℕ → List ℕ → List ℕ → List ℕ → Type 0
Spelling r s room room' = answered r room' ≡ spelling s room

-- bytes as a word: their digits, and `-` where there are none
unfoldable pub word_of : List ℕ → List ℕ
word_of [] = 45 ∷ []
word_of (b ∷ s) = written (b ∷ s)

-- how long the word is, and the room with it in front; refused, and the room as it was, where it does not fit
unfoldable pub showing : List ℕ → List ℕ → Result ℕ Refusal × List ℕ
showing s room =
    cond (ltb (length room) (length (word_of s))) (Err RoomLength, room)
    (Ok (length (word_of s)), over (word_of s) room)

abbrev pub Showing : Result ℕ Refusal → List ℕ → List ℕ → List ℕ → Type 0
Showing r s room room' = (r, room') ≡ showing s room

-- ---- reading

-- white space: tab, line feed, carriage return, space
abbrev pub white : ℕ → Meaning
white b = cond (eqb b 9) White (cond (eqb b 10) White (cond (eqb b 13) White (cond (eqb b 32) White Other)))

-- a digit by its value, 0 to 9, A to F or a to f; white space; or anything else
unfoldable pub meaning : ℕ → Meaning
meaning b =
    cond (ltb b 48) (white b)
    (cond (ltb b 58) (Digit (b - 48))
    (cond (ltb b 65) Other
    (cond (ltb b 71) (Digit (b - 55))
    (cond (ltb b 97) Other
    (cond (ltb b 103) (Digit (b - 87)) Other)))))

-- how far a text has been read, and the room that takes the bytes
pub record Reading : Type 0 where
  pub hex : Hex
  pub room : List ℕ

abbrev pub start : Hex
start = record { good = true; high = None; len = 0 }

-- what is no digit and no white space
abbrev pub spoilt : Hex → Hex
spoilt h = record { good = false; high = h.high; len = h.len }

-- a high digit waits
abbrev pub halfway : ℕ → Hex → Hex
halfway d h = record { good = h.good; high = Some d; len = h.len }

-- with its low one it is a byte, for which there may be no room left
abbrev pub whole : ℕ → ℕ → Reading → Reading
whole high d r =
    record {
      hex =
          record {
            good = r.hex.good;
            high = None;
            len = cond (ltb r.hex.len (length r.room)) (r.hex.len + 1) r.hex.len;
          };
      room = set r.room r.hex.len (high % 16 * 16 + d);
    }

-- a digit: the low one where a high one waits
abbrev pub taken_digit : ℕ → Option ℕ → Reading → Reading
taken_digit d None r = record { hex = halfway d r.hex; room = r.room }
taken_digit d (Some high) r = whole high d r

-- one byte of the text, by what it is
abbrev pub taken_as : Meaning → Reading → Reading
taken_as White r = r
taken_as Other r = record { hex = spoilt r.hex; room = r.room }
taken_as (Digit d) r = taken_digit d r.hex.high r

unfoldable pub taken_byte : ℕ → Reading → Reading
taken_byte b r = taken_as (meaning b) r

-- all of it, one after another
unfoldable pub taken_in : List ℕ → Reading → Reading
taken_in [] r = r
taken_in (b ∷ s) r = taken_in s (taken_byte b r)

abbrev pub TakingIn : Hex → Hex → List ℕ → List ℕ → List ℕ → Type 0
TakingIn r h text room room' = record { hex = r; room = room' } ≡ taken_in text (record { hex = h; room = room })
