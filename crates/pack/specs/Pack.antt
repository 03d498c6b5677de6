-- A lesson pack, as K1 of document 02 fixes it: what a reader answers at each place of any bytes.
use Rattle.std.specs.Prelude.{ℕ, zero, suc, ◌+◌, Bool, true, false, cond, ◌||◌, List, [], ◌∷◌, eqb, ltb, leb}
use Rattle.std.specs.Prelude.{length, get_or}
use Rattle.words.specs.Block.{part}
use Rattle.words.specs.Bytes.{number}
use Rattle.words.specs.Search.{place_of}
use Rattle.answers.specs.Answers.{Row, number_of}
use Rattle.pack.specs.declared.Kind.{Kind}
use Rattle.pack.specs.declared.items.Shape.{Shape}

-- ---- what a walk gives

-- what a reader answers: three kinds of card, with the start and the length of their bytes, and what ends a walk, done
-- or a refusal by its number; a bad shuffle has the place of the entry at which it is bad
pub data Answer : Type 0 where
  Word : ℕ → ℕ → Answer
  Song : ℕ → ℕ → Answer
  Shuffle : ℕ → ℕ → Answer
  Done : Answer
  Refused : ℕ → Answer
  BadShuffle : ℕ → Answer

-- the cards, and what comes behind the last of them
pub record Reading : Type 0 where
  pub cards : List Answer
  pub ending : Answer

-- no card more
abbrev pub ends : Answer → Reading
ends c = record { cards = []; ending = c }

-- a card, then what follows
abbrev pub gives : Answer → Reading → Reading
gives c r = record { cards = c ∷ r.cards; ending = r.ending }

-- what is answered when so many cards have been given: "A refusal keeps the reader's place and is given again. After
-- the last card comes done, each time, or 15."
unfoldable pub answer_at : Reading → ℕ → Answer
answer_at r place = get_or r.cards place r.ending

-- ---- the shuffle's entries: "every word's place from 0 once"

-- whether entry i, of as many as words, "repeats an earlier one or is too large"
unfoldable pub offends : List ℕ → ℕ → Bool
offends entries i = leb (length entries) (get_or entries i 0) || ltb (place_of (get_or entries i 0) entries) i

-- the first of n places from i on at which f holds; where it holds at none, the place behind them
unfoldable pub first_from : (ℕ → Bool) → ℕ → ℕ → ℕ
first_from f i zero = i
first_from f i (suc n) = cond (f i) i (first_from f (suc i) n)

-- "the place, from 0, of the first entry that repeats an earlier one or is too large"; where none is, their number
abbrev pub first_bad : List ℕ → ℕ
first_bad entries = first_from (offends entries) 0 (length entries)

-- ---- the cards of a kind: how many there may be, in how many bytes each has its length, the most it may be

-- "A byte counts the words, 1 to 12; each is a length byte, 1 to 40, and its bytes."
abbrev pub words : Shape
words = record { kind = Kind.Word; least = 1; most = 12; width = 1; longest = 40 }

-- "A byte counts the songs, 0 or 1; a song is a two-byte little-endian length, 1 to 16,384, and its bytes."
abbrev pub songs : Shape
songs = record { kind = Kind.Song; least = 0; most = 1; width = 2; longest = 16384 }

-- "Cards are each word, the song if any, then the shuffle as one": that of a kind with so many bytes from a place on
abbrev pub card_of : Kind → ℕ → ℕ → Answer
card_of Kind.Word start n = Word start n
card_of Kind.Song start n = Song start n
card_of Kind.Shuffle start n = Shuffle start n

module _ (s : List ℕ) where
  -- ---- an item: a number of so many bytes and, where it counts bytes, as many bytes behind it

  -- its number
  abbrev pub number_at : ℕ → ℕ → ℕ
  number_at at width = number (part s at width)

  -- 12 "cut short" where it is not wholly there, 13 "count or length not allowed": "12 before 13 at one place"
  abbrev pub item_rows : ℕ → ℕ → Bool → ℕ → ℕ → List Row
  item_rows at width counts least most =
      let n = number_at at width in
      record { applies = ltb (length s) (at + width + cond counts n 0); number = 12 }
      ∷ record { applies = ltb n least; number = 13 }
      ∷ record { applies = ltb most n; number = 13 }
      ∷ []

  -- its refusal, or what follows its number: so the refusal is "the first met from the left"
  unfoldable pub item : ℕ → ℕ → Bool → ℕ → ℕ → (ℕ → Reading) → Reading
  item at width counts least most follows =
      let r = number_of (item_rows at width counts least most) in
      cond (eqb r 0) (follows (number_at at width)) (ends (Refused r))

  -- ---- the pack, from the front

  -- n cards of a kind, one behind the other, then what follows
  unfoldable pub many : Shape → ℕ → ℕ → (ℕ → Reading) → Reading
  many k zero at follows = follows at
  many k (suc n) at follows =
      item at k.width true 1 k.longest
      (λ l. gives (card_of k.kind (at + k.width) l) (many k n (at + k.width + l) follows))

  -- how many there are, then they; what follows is told their number
  unfoldable pub counted : Shape → ℕ → (ℕ → ℕ → Reading) → Reading
  counted k at follows = item at 1 false k.least k.most (λ n. many k n (at + 1) (follows n))

  -- "After the last card comes done, each time, or 15": 15 "bytes left over"
  abbrev pub after_last : ℕ → Reading
  after_last at = ends (cond (ltb at (length s)) (Refused 15) Done)

  -- "A byte counts the shuffle's entries, as many as words; they follow, a byte each", "then the shuffle as one": a
  -- card, or 14 "bad shuffle" with its place
  unfoldable pub shuffle : ℕ → ℕ → Reading
  shuffle words at =
      item at 1 true words words (λ n.
      let bad = first_bad (part s (at + 1) n) in
      cond (ltb bad n) (ends (BadShuffle bad)) (gives (Shuffle (at + 1) n) (after_last (at + 1 + n))))

  -- the whole
  unfoldable pub reading : Reading
  reading = counted words 0 (λ n at. counted songs at (λ _ at. shuffle n at))

  unfoldable pub card_at : ℕ → Answer
  card_at place = answer_at reading place
