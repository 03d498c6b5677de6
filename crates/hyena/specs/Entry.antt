-- What HyENA's entry points answer, over any block cipher.
use Rattle.std.specs.Prelude.{ℕ, ◌≡◌, Bool, true, false, not, List, [], ◌∷◌, eqb, ltb, length, replicate}
use Rattle.words.specs.Bytes.{number, bytes, over}
use Rattle.answers.specs.Answers.{Row, Answer, answered, refuse, answer}
use Rattle.gift.specs.Gift.{encipher}
use Rattle.mode.specs.Hyena.{outputs, tag}

-- of the six lengths: 1 "key has a wrong length", 2 "nonce or iv has a wrong length", 3 "associated data too long", 4
-- "text or block length not allowed", 5 "tag, or room for it, not 16 bytes", 6 "room too short"
abbrev pub rows : ℕ → ℕ → ℕ → ℕ → ℕ → ℕ → List Row
rows key nonce «data» text tag room =
    record { applies = not (eqb key 16); number = 1 }
    ∷ record { applies = not (eqb nonce 12); number = 2 }
    ∷ record { applies = ltb 65536 «data»; number = 3 }
    ∷ record { applies = ltb 1048576 text; number = 4 }
    ∷ record { applies = not (eqb tag 16); number = 5 }
    ∷ record { applies = ltb room text; number = 6 }
    ∷ []

-- what a call is handed to read; in opening the text is the ciphertext
pub record Inputs : Type 0 where
  pub key : List ℕ
  pub nonce : List ℕ
  pub «data» : List ℕ
  pub text : List ℕ

abbrev pub inputs : List ℕ → List ℕ → List ℕ → List ℕ → Inputs
inputs key nonce «data» text = record { key = key; nonce = nonce; «data» = «data»; text = text }

-- "A short form of sealing and opening takes no associated data and uses the empty one."
abbrev pub short : List ℕ → List ℕ → List ℕ → Inputs
short key nonce text = inputs key nonce [] text

-- with a tag, or room for it, and room for the text
abbrev pub refusals : Inputs → List ℕ → List ℕ → List Row
refusals i tag room =
    rows (length i.key) (length i.nonce) (length i.«data») (length i.text) (length tag) (length room)

-- the memory that sealing writes
pub record Sealed : Type 0 where
  pub room : List ℕ
  pub tag : List ℕ

-- over a block cipher: its block function under each key
module _ (cipher : List ℕ → ℕ → ℕ) where
  -- the ciphertext of a text, or the text of a ciphertext, and the tag of either
  abbrev pub output_of : Bool → Inputs → List ℕ
  output_of opening i = outputs (cipher i.key) opening i.nonce i.«data» i.text

  abbrev pub tag_of : Bool → Inputs → List ℕ
  tag_of opening i = bytes 16 (tag (cipher i.key) opening i.nonce i.«data» i.text)

  -- ---- sealing: the number that is answered, and what room and tag hold then

  unfoldable pub sealing : Inputs → List ℕ → List ℕ → Answer Sealed
  sealing i room tag =
      answer (refusals i tag room) (record { room = over (output_of false i) room; tag = tag_of false i })
      (record { room = room; tag = tag })

  -- the promise: r is answered, and room' and tag' are left
  abbrev pub Sealing : ℕ → Inputs → List ℕ → List ℕ → List ℕ → List ℕ → Type 0
  Sealing r i room tag room' tag' = answered r (record { room = room'; tag = tag' }) ≡ sealing i room tag

  -- ---- opening: 7 "opening: tag is not the recomputed one"
  abbrev pub wrong_tag : Inputs → List ℕ → List Row
  wrong_tag i tag = record { applies = not (eqb (number tag) (number (tag_of true i))); number = 7 } ∷ []

  -- the number that is answered, and what room holds then: with 7 "first bytes of the room, as many as the ciphertext
  -- has, are each 0; the rest unchanged"
  unfoldable pub opening : Inputs → List ℕ → List ℕ → Answer (List ℕ)
  opening i tag room =
      refuse (refusals i tag room) room
      (refuse (wrong_tag i tag) (over (replicate (length i.text) 0) room)
      (answered 0 (over (output_of true i) room)))

  -- the promise: r is answered, and room' is left
  abbrev pub Opening : ℕ → Inputs → List ℕ → List ℕ → List ℕ → Type 0
  Opening r i tag room room' = answered r room' ≡ opening i tag room

-- GIFT-128 as such a cipher
abbrev pub gift : List ℕ → ℕ → ℕ
gift key x = encipher (number key) x
