-- What the reader answers, and what judging a whole pack does.
use Rattle.std.specs.Prelude.{◌≡◌, ℕ, ◌+◌, Bool, true, false, cond, List, length as list_length, Option, Some, None}
use Rattle.std.specs.Prelude.{Result, Ok, Err}
use Rattle.std.specs.Borrow.{Bor}
use Rattle.pack.specs.Pack.{Answer, Word, Song, Shuffle, Done, Refused, BadShuffle, card_of, reading, card_at}
use Rattle.pack.specs.declared.Card.{Card}
use Rattle.pack.specs.declared.Bad.{Bad}
use Rattle.pack.specs.declared.Rejected.{Rejected}
use Rattle.pack.specs.declared.Reader.{Reader}

-- an answer as C has it: 0 or the refusal; 1 for a word, 2 for a song, 3 for a shuffle, 0 for no card; the start and
-- the length of its bytes; the place of the entry at which a shuffle is bad; the reader's place after it
pub record PackCard : Type 0 where
  pub number : ℕ
  pub kind : ℕ
  pub start : ℕ
  pub length : ℕ
  pub bad : ℕ
  pub next : ℕ

-- what a pack is as a whole: 0 or the refusal; how many cards are given before that; the place of the entry at which
-- the shuffle is bad
pub record PackJudged : Type 0 where
  pub number : ℕ
  pub cards : ℕ
  pub bad : ℕ

-- an answer, and the reader's place after it
pub record Read : Type 0 where
  pub card : Answer
  pub next : ℕ

-- the document's number, and "its kind, and start and length of its bytes" (1 a word, 2 a song, 3 a shuffle); "A bad
-- shuffle also answers the place"
unfoldable pub told_of : Answer → ℕ → PackCard
told_of (Word start n) next = record { number = 0; kind = 1; start = start; length = n; bad = 0; next = next }
told_of (Song start n) next = record { number = 0; kind = 2; start = start; length = n; bad = 0; next = next }
told_of (Shuffle start n) next = record { number = 0; kind = 3; start = start; length = n; bad = 0; next = next }
told_of Done next = record { number = 0; kind = 0; start = 0; length = 0; bad = 0; next = next }
told_of (Refused r) next = record { number = r; kind = 0; start = 0; length = 0; bad = 0; next = next }
told_of (BadShuffle i) next = record { number = 14; kind = 0; start = 0; length = 0; bad = i; next = next }

abbrev pub told : Read → PackCard
told r = told_of r.card r.next

-- is it a card
unfoldable pub is_card : Answer → Bool
is_card (Word start n) = true
is_card (Song start n) = true
is_card (Shuffle start n) = true
is_card Done = false
is_card (Refused r) = false
is_card (BadShuffle i) = false

-- what is answered at a place, and the place after it: "A refusal keeps the reader's place"
unfoldable pub read_at : List ℕ → ℕ → Read
read_at s place = let c = card_at s place in record { card = c; next = cond (is_card c) (place + 1) place }

-- "a reader that holds the pack and its place": at the first card
abbrev pub reader_of : Bor (List ℕ) → Reader
reader_of s = record { pack = s; place = 0 }

-- what it answers when it is "asked for the next card", and the reader after that
pub record Moved : Type 0 where
  pub card : Answer
  pub reader : Reader

abbrev pub moved : Reader → Moved
moved r =
    let t = read_at r.pack.now r.place in
    record { card = t.card; reader = record { pack = r.pack; place = t.next } }

abbrev pub Moves : Answer → Reader → Reader → Type 0
Moves c r r' = record { card = c; reader = r' } ≡ moved r

-- the whole pack: its number, how many cards it gives, and where its shuffle is bad
unfoldable pub judged : List ℕ → PackJudged
judged s =
    let r = reading s in
    let t = told_of r.ending 0 in
    record { number = t.number; cards = list_length r.cards; bad = t.bad }

-- ---- what the code answers, in these words

abbrev pub said_bad : Bad → Answer
said_bad Bad.CutShort = Refused 12
said_bad Bad.CountOrLength = Refused 13
said_bad (Bad.BadShuffle entry) = BadShuffle entry
said_bad Bad.LeftOver = Refused 15

abbrev pub said : Result (Option Card) Bad → Answer
said (Ok (Some c)) = card_of c.kind c.start c.length
said (Ok None) = Done
said (Err bad) = said_bad bad

-- of a pack as a whole
abbrev pub verdict : Result ℕ Rejected → PackJudged
verdict (Ok cards) = record { number = 0; cards = cards; bad = 0 }
verdict (Err r) =
    let t = told_of (said_bad r.why) 0 in
    record { number = t.number; cards = r.cards; bad = t.bad }
