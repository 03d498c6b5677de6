-- What is told of answers.
use mathlib.Core.Path.{◌≡◌, refl, sym}
use mathlib.Core.Bool.{false, true≢false}
use Prim.Native.Nat.{ℕ}
use Rattle.std.specs.Prelude.{Option, Some, None, Result, Ok, Err}
use Rattle.pack.specs.Pack.{Answer, Word, Song, Shuffle, Done, Refused, BadShuffle, card_of}
use Rattle.pack.specs.Reader.{Read, told_of, told, is_card, said_bad, said}
use Rattle.pack.specs.declared.Kind.{Kind}
use Rattle.pack.specs.declared.Card.{Card}
use Rattle.pack.specs.declared.Bad.{Bad}

-- what is none has no bytes
pub end-told : (c : Answer) (next : ℕ) → is_card c ≡ false → told_of c next
    ≡ record {
      number = (told_of c 0).number;
      kind = 0;
      start = 0;
      length = 0;
      bad = (told_of c 0).bad;
      next = next;
    }
unfolding is_card told_of
end-told (Word a n) next e = absurd (true≢false e)
end-told (Song a n) next e = absurd (true≢false e)
end-told (Shuffle a n) next e = absurd (true≢false e)
end-told Done next e = refl
end-told (Refused r) next e = refl
end-told (BadShuffle i) next e = refl

-- what is told of an answer of the code, and the place after it
module _ {r : Result (Option Card) Bad} {next : ℕ} {t : Read} (et : record { card = said r; next = next } ≡ t) where
  pub told-card : (c : Card) {kind : ℕ} → r ≡ Ok (Some c) → kind ≡ (told_of (card_of c.kind 0 0) 0).kind
      → record { number = 0; kind = kind; start = c.start; length = c.length; bad = 0; next = next } ≡ told t
  unfolding told_of
  told-card c e ek = rw (ek, sym et, e) (by c.kind)
    where
      by : (k : Kind) → record {
        number = 0;
        kind = (told_of (card_of k 0 0) 0).kind;
        start = c.start;
        length = c.length;
        bad = 0;
        next = next;
      } ≡ told_of (card_of k c.start c.length) next
      by Kind.Word = refl
      by Kind.Song = refl
      by Kind.Shuffle = refl

  pub told-done : r ≡ Ok None → record { number = 0; kind = 0; start = 0; length = 0; bad = 0; next = next } ≡ told t
  unfolding told_of
  told-done e = rw (sym et, e) refl

  pub told-bad : (bad : Bad) {number entry : ℕ} → r ≡ Err bad → number ≡ (told_of (said_bad bad) 0).number
      → entry ≡ (told_of (said_bad bad) 0).bad
      → record { number = number; kind = 0; start = 0; length = 0; bad = entry; next = next } ≡ told t
  unfolding is_card
  told-bad bad e en eb =
      rw (en, eb, sym et, e) (sym (end-told (said_bad bad) next (by bad)))
    where
      by : (bad : Bad) → is_card (said_bad bad) ≡ false
      by Bad.CutShort = refl
      by Bad.CountOrLength = refl
      by (Bad.BadShuffle entry) = refl
      by Bad.LeftOver = refl
