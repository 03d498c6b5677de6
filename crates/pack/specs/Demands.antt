-- What K1 asks of every pack, whatever its bytes.
use Rattle.std.specs.Prelude.{◌≡◌, ℕ, ◌+◌, ◌<◌, ◌≤◌, true, false, List, [], ◌∷◌, ◌++◌, length as list_length, get_or}
use Rattle.words.specs.Block.{part}
use Rattle.words.specs.Bytes.{Bytes, bytes}
use Rattle.words.specs.Iterate.{iterate}
use Rattle.words.specs.Search.{place_of}
use Rattle.pack.specs.Pack.{Answer, reading, card_at}
use Rattle.pack.specs.Reader.{PackCard, PackJudged, told_of, is_card, read_at, judged}

-- where a card's bytes start and end
abbrev pub start_of : Answer → ℕ
start_of c = (told_of c 0).start

abbrev pub end_of : Answer → ℕ
end_of c = start_of c + (told_of c 0).length

-- the items of some cards, one behind the other: a length, in so many bytes, and the card's own bytes
abbrev pub items : List ℕ → ℕ → List Answer → List ℕ
items s width [] = []
items s width (c ∷ cs) =
    bytes width (told_of c 0).length ++ (part s (start_of c) (told_of c 0).length ++ items s width cs)

-- are all of a kind
abbrev pub AllOf : ℕ → List Answer → Type 0
AllOf kind [] = Unit {0}
AllOf kind (c ∷ cs) = ((told_of c 0).kind ≡ kind) × AllOf kind cs

-- are all no longer than that
abbrev pub NoLonger : ℕ → List Answer → Type 0
NoLonger most [] = Unit {0}
NoLonger most (c ∷ cs) = ((told_of c 0).length ≤ most) × NoLonger most cs

-- "every word's place from 0 once": of n words, as many entries, each place among them, and none of them twice
pub record Once (n : ℕ) (entries : List ℕ) : Type 0 where
  pub many : list_length entries ≡ n
  pub every : (p : ℕ) → p < n → place_of p entries < n
  pub once : (i j : ℕ) → i < j → j < n → get_or entries i 0 ≡ get_or entries j 0 → ⊥

-- a pack that is accepted: its words, its songs and its shuffle, as many and as long as may be, with nothing between
-- them but counts and lengths; what the shuffle says; and the most bytes that these come to
pub record Whole (s : List ℕ) : Type 0 where
  pub words : List Answer
  pub songs : List Answer
  pub shuffle : Answer
  pub kinds : AllOf 1 words × AllOf 2 songs × ((told_of shuffle 0).kind ≡ 3)
  pub counts : (1 ≤ list_length words) × (list_length words ≤ 12) × (list_length songs ≤ 1)
  pub lengths : NoLonger 40 words × NoLonger 16384 songs
  pub cards : (reading s).cards ≡ words ++ (songs ++ (shuffle ∷ []))
  pub is : s ≡ bytes 1 (list_length words) ++ (items s 1 words
      ++ (bytes 1 (list_length songs) ++ (items s 2 songs ++ items s 1 (shuffle ∷ []))))
  pub places : Once (list_length words) (part s (start_of shuffle) (told_of shuffle 0).length)
  pub most : list_length s ≤ 16893

-- what is told where a walk has ended
abbrev pub ended : PackJudged → ℕ → PackCard
ended j place = record { number = j.number; kind = 0; start = 0; length = 0; bad = j.bad; next = place }

pub record Demands (s : List ℕ) : Type 0 where
  -- "A refusal keeps the reader's place and is given again", and so is done
  pub given-again : (place : ℕ) → is_card (card_at s place) ≡ false
      → ((read_at s place).next ≡ place) × ((more : ℕ) → card_at s (place + more) ≡ card_at s place)
  -- cards lie within the pack, have bytes, and each lies behind those before it
  pub within : (place : ℕ) → is_card (card_at s place) ≡ true
      → (start_of (card_at s place) < end_of (card_at s place)) × (end_of (card_at s place) ≤ list_length s)
  pub behind : (i j : ℕ) → i < j → is_card (card_at s j) ≡ true
      → end_of (card_at s i) ≤ start_of (card_at s j)
  -- call n of a walk, from 0, answers what stands at place n
  pub walked : (n : ℕ) → (read_at s (iterate (λ _ place. (read_at s place).next) n 0)).card ≡ card_at s n
  -- a walk ends within fifteen calls
  pub fifteen : (place : ℕ) → 14 ≤ place → is_card (card_at s place) ≡ false
  -- judging tells how many cards a walk gives, and how it ends
  pub judges : (place : ℕ) → (place < (judged s).cards → is_card (card_at s place) ≡ true)
      × ((judged s).cards ≤ place → told_of (card_at s place) place ≡ ended (judged s) place)
  -- a pack that is accepted is its items, one behind the other
  pub whole : Bytes s → (judged s).number ≡ 0 → Whole s
