-- The demands on sealing and opening over a block cipher, of what the entry points answer, with the byte lists that a
-- caller holds. The short forms are the same with their own associated data.
use Rattle.std.specs.Prelude.{◌≡◌, ◌↔◌, true, List, ℕ, ◌≤◌, length, take, replicate}
use Rattle.words.specs.Bytes.{Bytes, over}
use Rattle.answers.specs.Answers.{number_of, answered}
use Rattle.mode.specs.Demands.{Alike}
use Rattle.hyena.specs.Entry.{Inputs, refusals, tag_of, sealing, opening}

-- the inputs with another text
abbrev pub with_text : Inputs → List ℕ → Inputs
with_text i text = record { key = i.key; nonce = i.nonce; «data» = i.«data»; text = text }

pub record Demands (cipher : List ℕ → ℕ → ℕ) : Type 0 where
  -- "Opening gives back the sealed text": what sealing wrote, as much of the room as the text has, and the tag
  pub opens-sealed : (i : Inputs) (room tag room' : List ℕ) → (sealing cipher i room tag).number ≡ 0
      → length i.text ≤ length room'
      → let s = (sealing cipher i room tag).outcome in
      opening cipher (with_text i (take (length i.text) s.room)) s.tag room' ≡ answered 0 (over i.text room')
  -- and the other way round: sealing what opening wrote gives the ciphertext and the tag again
  pub seals-opened : (i : Inputs) (tag room room' tag' : List ℕ) → Bytes tag → (opening cipher i tag room).number ≡ 0
      → length i.text ≤ length room'
      → length tag' ≡ 16 → let t = take (length i.text) (opening cipher i tag room).outcome in
      sealing cipher (with_text i t) room' tag' ≡ answered 0 (record { room = over i.text room'; tag = tag })
  -- it "accepts exactly when the tag is the recomputed one" and no length is refused
  pub accepts : (i : Inputs) (tag room : List ℕ) → Bytes tag → ((opening cipher i tag room).number ≡ 0)
      ↔ ((number_of (refusals i tag room) ≡ 0) × (tag ≡ tag_of cipher true i))
  -- any other tag is refused with 7, and "the bytes meant for the text are all zero"
  pub rejects : (i : Inputs) (tag room : List ℕ) → Bytes tag → number_of (refusals i tag room) ≡ 0
      → (tag ≡ tag_of cipher true i → ⊥)
      → opening cipher i tag room ≡ answered 7 (over (replicate (length i.text) 0) room)
  -- demand 3: ciphertexts that are alike and differ are opened by different tags
  pub tags-differ : (i : Inputs) (d : List ℕ) → Bytes i.nonce → length i.nonce ≡ 12 → Bytes i.«data»
      → Bytes i.text → Bytes d → Alike i.text d
      → (i.text ≡ d → ⊥) → tag_of cipher true i ≡ tag_of cipher true (with_text i d) → ⊥
  -- "So no tag opens both."
  pub no-tag-opens-both : (i : Inputs) (d : List ℕ) → Bytes i.nonce → Bytes i.«data» → Bytes i.text → Bytes d
      → Alike i.text d → (i.text ≡ d → ⊥)
      → (tag room room' : List ℕ) → Bytes tag → (opening cipher i tag room).number ≡ 0
      → (opening cipher (with_text i d) tag room').number ≡ 0 → ⊥
