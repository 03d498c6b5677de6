-- What K3 demands of a batch, card by card, of what it answers.
use Rattle.std.specs.Prelude.{◌≡◌, List, [], ℕ, ◌*◌, ◌≤◌, ◌<◌, length, get_or, drop, replicate}
use Rattle.words.specs.Block.{part}
use Rattle.words.specs.Bytes.{over}
use Rattle.answers.specs.Answers.{answered}
use Rattle.lengths.specs.Lengths.{text_at}
use Rattle.hyena.specs.Entry as hyena
use Rattle.hyena.specs.Entry.{sealing, opening, gift}
use Rattle.drawer.specs.declared.Drawer.{Drawer}
use Rattle.drawer.specs.Drawer.{Use, for_nonce, moved}
use Rattle.drawer.specs.Sequence.{handed_out}
use Rattle.batch.specs.Batch.{Inputs, Sealed, inputs, batching}

-- ---- card i of a batch

-- its nonce: "the next draws", of which it has draw i
abbrev pub nonce_at : ℕ → Drawer → ℕ → List ℕ
nonce_at n d i = get_or (handed_out (replicate n for_nonce) d) i []

-- its tag
abbrev pub tag_at : List ℕ → ℕ → List ℕ
tag_at tags i = part tags (16 * i) 16

-- what it is sealed from, where s has the texts, and opened from, where s has the ciphertexts
abbrev pub card_at : Inputs → List ℕ → ℕ → hyena.Inputs
card_at b s i =
    hyena.inputs b.key (nonce_at (length b.lengths) b.drawer i) b.«data» (text_at b.lengths s i)

-- a batch with the same lengths, key, drawer and associated data
abbrev pub with_texts : Inputs → List ℕ → Inputs
with_texts b texts = inputs b.key b.«data» texts b.lengths b.drawer

-- ---- of a batch that is refused

-- "A refused batch draws nothing and writes nothing."
abbrev pub DoesNothing : Type 0
DoesNothing = (b : Inputs) (room tags : List ℕ) → ((batching b room tags).number ≡ 0 → ⊥)
    → (batching b room tags).outcome ≡ record { room = room; tags = tags; next = b.drawer }

-- ---- of a batch that is not

pub record Demands (b : Inputs) (room tags : List ℕ) (s : Sealed) : Type 0 where
  -- "It equals sealing them singly in order with the next draws.": each card is sealed into its part of the room
  pub seals-singly : (i : ℕ) → i < length b.lengths
      → sealing gift (card_at b b.texts i) (text_at b.lengths room i) (tag_at tags i)
      ≡ answered 0 (record { room = text_at b.lengths s.room i; tag = tag_at s.tags i })
  -- a draw is taken for each card, and no more
  pub moves-on : s.next ≡ moved (length b.lengths) b.drawer
  -- the rest of longer room keeps its bytes
  pub keeps-rest : drop (length b.texts) s.room ≡ drop (length b.texts) room
  -- each card opens again, with its nonce and its tag
  pub opens-again : (i : ℕ) → i < length b.lengths → (room' : List ℕ) → get_or b.lengths i 0 ≤ length room'
      → opening gift (card_at b s.room i) (tag_at s.tags i) room'
      ≡ answered 0 (over (text_at b.lengths b.texts i) room')
  -- no two nonces are equal
  pub nonces-differ : (i j : ℕ) → i < length b.lengths → j < length b.lengths
      → nonce_at (length b.lengths) b.drawer i ≡ nonce_at (length b.lengths) b.drawer j → i ≡ j
  -- and none comes again in draws from the drawer that is handed back
  pub none-later : (us : List Use) (i j : ℕ) → i < length b.lengths → j < length (handed_out us s.next)
      → nonce_at (length b.lengths) b.drawer i ≡ get_or (handed_out us s.next) j [] → ⊥

abbrev pub Accepted : Type 0
Accepted = (b : Inputs) (room tags : List ℕ) → (batching b room tags).number ≡ 0
    → Demands b room tags (batching b room tags).outcome

-- "changing one card's text changes no other card's ciphertext or tag": every card whose text is the same in two
-- batches has the same ciphertext and tag in both, whatever the other texts are, and whatever room and tags held
abbrev pub Unchanged : Type 0
Unchanged = (b : Inputs) (texts room tags room' tags' : List ℕ) → (batching b room tags).number ≡ 0
    → (batching (with_texts b texts) room' tags').number ≡ 0
    → (i : ℕ) → i < length b.lengths → text_at b.lengths b.texts i ≡ text_at b.lengths texts i
    → let s = (batching b room tags).outcome in let s' = (batching (with_texts b texts) room' tags').outcome in
    (text_at b.lengths s.room i ≡ text_at b.lengths s'.room i) × (tag_at s.tags i ≡ tag_at s'.tags i)
