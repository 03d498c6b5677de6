-- What the code of a batch is asked, and what it makes, card by card, in room, tags and drawer.
use Rattle.std.specs.Prelude.{◌≡◌, ℕ, ◌+◌, ◌*◌, ◌≤◌, false, List, ◌++◌, length, take, drop}
use Rattle.words.specs.Block.{part}
use Rattle.lengths.specs.Lengths.{total, any_above}
use Rattle.hyena.specs.Entry.{inputs, sealing, gift}
use Rattle.drawer.specs.declared.Drawer.{Drawer}
use Rattle.drawer.specs.Drawer.{for_nonce, remaining, drawing}
use Rattle.batch.specs.Batch.{Inputs, Sealed, singly}

-- what holds of a batch that is not refused
pub record Allowed (b : Inputs) (room tags : List ℕ) : Type 0 where
  pub key-16 : length b.key ≡ 16
  pub data-most : length b.«data» ≤ 65536
  pub none-long : any_above 1048576 b.lengths ≡ false
  pub tags-16 : length tags ≡ 16 * length b.lengths
  pub room_fits : length b.texts ≤ length room
  pub draws-left : length b.lengths ≤ remaining b.drawer
  pub some : length b.lengths ≡ 0 → ⊥
  pub whole : total b.lengths ≡ length b.texts

-- a card is sealed with the next draw
abbrev pub one_card : (key «data» text : List ℕ) → Drawer → (room tag : List ℕ) → Sealed
one_card key «data» text d room tag =
    let drawn = (drawing for_nonce d).outcome in
    let card = (sealing gift (inputs key drawn.bytes «data» text) room tag).outcome in
    record { room = card.room; tags = card.tag; next = drawn.next }

-- s with t in the place of its n bytes from place at on
abbrev pub placed : List ℕ → ℕ → ℕ → List ℕ → List ℕ
placed s at n t = take at s ++ t ++ drop (at + n) s

module _ (key «data» texts : List ℕ) where
  -- card i, of n bytes from place at on, is sealed with the next draw
  abbrev pub after_card : ℕ → ℕ → ℕ → Sealed → Sealed
  after_card i at n s =
      let card = one_card key «data» (part texts at n) s.next (part s.room at n) (part s.tags (16 * i) 16) in
      record {
        room = placed s.room at n card.room;
        tags = placed s.tags (16 * i) 16 card.tags;
        next = card.next;
      }

  -- those from card i on, which starts at place at, are sealed
  abbrev pub from_card : List ℕ → ℕ → ℕ → Sealed → Sealed
  from_card lengths i at s =
      let rest = singly key «data» (drop at texts) (drop i lengths) s.next (drop at s.room)
      (drop (16 * i) s.tags) in
      record {
        room = take at s.room ++ rest.room;
        tags = take (16 * i) s.tags ++ rest.tags;
        next = rest.next;
      }
