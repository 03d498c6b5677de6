-- Twelve cards at a time, as K3 of document 02 fixes them: what sealing a batch answers.
use Rattle.std.specs.Prelude.{ℕ, ◌*◌, ◌≡◌, not, List, [], ◌∷◌, ◌++◌, eqb, ltb, length, take, drop}
use Rattle.answers.specs.Answers.{Row, Answer, answered, answer}
use Rattle.lengths.specs.Lengths.{total, any_above}
use Rattle.hyena.specs.Entry as hyena
use Rattle.hyena.specs.Entry.{sealing, gift}
use Rattle.drawer.specs.declared.Drawer.{Drawer}
use Rattle.drawer.specs.Drawer as drawer
use Rattle.drawer.specs.Drawer.{for_nonce, drawing}

-- "1 to 12 texts end to end with a list of their lengths, a key, one associated data and a drawer"
pub record Inputs : Type 0 where
  pub key : List ℕ
  pub «data» : List ℕ
  pub texts : List ℕ
  pub lengths : List ℕ
  pub drawer : Drawer

abbrev pub inputs : List ℕ → List ℕ → List ℕ → List ℕ → Drawer → Inputs
inputs key «data» texts lengths drawer =
    record { key = key; «data» = «data»; texts = texts; lengths = lengths; drawer = drawer }

-- the memory that a batch writes, and the drawer that is handed back
pub record Sealed : Type 0 where
  pub room : List ℕ
  pub tags : List ℕ
  pub next : Drawer

-- It "writes ciphertexts end to end and a tag for each. It equals sealing them singly in order with the next draws." A
-- card's room is as long as its text; behind the last card the rest of longer room keeps its bytes.
unfoldable pub singly : List ℕ → List ℕ → List ℕ → List ℕ → Drawer → List ℕ → List ℕ → Sealed
singly key «data» texts [] d room tags = record { room = room; tags = tags; next = d }
singly key «data» texts (n ∷ ns) d room tags =
    let drawn = (drawing for_nonce d).outcome in
    let card = (sealing gift (hyena.inputs key drawn.bytes «data» (take n texts)) (take n room) (take 16 tags)
    ).outcome in
    let rest = singly key «data» (drop n texts) ns drawn.next (drop n room) (drop 16 tags) in
    record { room = card.room ++ rest.room; tags = card.tag ++ rest.tags; next = rest.next }

-- ---- refusals

-- 1 "key has a wrong length", 3 "associated data too long", 4 "for any single length above 1,048,576, never for the
-- whole text", 5 "when the tag room isn't 16 bytes for each length listed", 6 "when the room is shorter than the whole
-- text"
abbrev pub length_rows : ℕ → ℕ → ℕ → List ℕ → ℕ → ℕ → List Row
length_rows key «data» text lengths room tags =
    record { applies = not (eqb key 16); number = 1 }
    ∷ record { applies = ltb 65536 «data»; number = 3 }
    ∷ record { applies = any_above 1048576 lengths; number = 4 }
    ∷ record { applies = not (eqb tags (16 * length lengths)); number = 5 }
    ∷ record { applies = ltb room text; number = 6 }
    ∷ []

-- 9 "exactly when fewer draws remain than lengths listed": the drawer's own row
abbrev pub draw_rows : List ℕ → Drawer → List Row
draw_rows lengths d = drawer.rows (length lengths) d

-- "last in order", 18 "no cards, more than 12, or lengths that don't add up to the text"
abbrev pub form_rows : ℕ → List ℕ → List Row
form_rows text lengths =
    record { applies = eqb (length lengths) 0; number = 18 }
    ∷ record { applies = ltb 12 (length lengths); number = 18 }
    ∷ record { applies = not (eqb (total lengths) text); number = 18 }
    ∷ []

abbrev pub rows : ℕ → ℕ → ℕ → List ℕ → Drawer → ℕ → ℕ → List Row
rows key «data» text lengths d room tags =
    length_rows key «data» text lengths room tags ++ draw_rows lengths d ++ form_rows text lengths

abbrev pub refusals : Inputs → List ℕ → List ℕ → List Row
refusals b room tags =
    rows (length b.key) (length b.«data») (length b.texts) b.lengths b.drawer (length room) (length tags)

-- ---- the number that is answered, what room and tags hold then, and the drawer; "A refused batch draws nothing and
-- writes nothing."
unfoldable pub batching : Inputs → List ℕ → List ℕ → Answer Sealed
batching b room tags =
    answer (refusals b room tags) (singly b.key b.«data» b.texts b.lengths b.drawer room tags)
    (record { room = room; tags = tags; next = b.drawer })

-- the promise: r and the next drawer are answered, and room' and tags' are left
abbrev pub Batching : ℕ → Inputs → List ℕ → List ℕ → List ℕ → List ℕ → Drawer → Type 0
Batching r b room tags room' tags' next =
    answered r (record { room = room'; tags = tags'; next = next }) ≡ batching b room tags
