-- The promises of a pack's two functions allow one result each; those of the others are their libraries'.
use mathlib.Core.Path.{◌≡◌, ap}
use mathlib.Core.List.{List}
use Prim.Native.Nat.{ℕ}
use Rattle.words.proofs.Unique.{same}
use Rattle.pack.specs.Reader as words
use Rattle.pack.specs.Reader.{read_at, told, judged}
use Rattle.vespruldo.specs.declared.structs.PackCard.{PackCard}
use Rattle.vespruldo.specs.declared.structs.PackJudged.{PackJudged}
use Rattle.vespruldo.specs.Told.{in_words, judged_in_words}

abbrev card : words.PackCard → PackCard
card c =
    record {
      number = c.number;
      kind = c.kind;
      start = c.start;
      length = c.length;
      bad = c.bad;
      next = c.next;
    }

pub pack-next-unique : (s : List ℕ) (place : ℕ) {a b : PackCard} → in_words a ≡ told (read_at s place)
    → in_words b ≡ told (read_at s place) → a ≡ b
pack-next-unique s place p q = ap card (same p q)

abbrev verdict : words.PackJudged → PackJudged
verdict j = record { number = j.number; cards = j.cards; bad = j.bad }

pub pack-judge-unique : (s : List ℕ) {a b : PackJudged} → judged_in_words a ≡ judged s → judged_in_words b ≡ judged s
    → a ≡ b
pack-judge-unique s p q = ap verdict (same p q)
