-- C's structs of a pack in the words of the crate `pack`.
use Rattle.pack.specs.Reader as words
use Rattle.vespruldo.specs.declared.structs.PackCard.{PackCard}
use Rattle.vespruldo.specs.declared.structs.PackJudged.{PackJudged}

-- an answer of a reader
abbrev pub in_words : PackCard → words.PackCard
in_words c =
    record {
      number = c.number;
      kind = c.kind;
      start = c.start;
      length = c.length;
      bad = c.bad;
      next = c.next;
    }

-- what a pack is as a whole
abbrev pub judged_in_words : PackJudged → words.PackJudged
judged_in_words j = record { number = j.number; cards = j.cards; bad = j.bad }
