-- Each public function's promise allows one result.
use mathlib.Core.Path.{◌≡◌, refl, sym, ap, ◌∙◌}
use mathlib.Core.Bool.{cond}
use mathlib.Core.List.{List}
use Prim.Native.Nat.{ℕ}
use lib.Dec.{eqb}
use denote.Ref.{Bor}
use Rattle.std.specs.Prelude.{Option, Some, None, Result, Ok, Err}
use Rattle.words.proofs.Unique.{same}
use Rattle.answers.specs.declared.Refusal.{Refusal}
use Rattle.answers.specs.Told.{number_of_refusal}
use Rattle.answers.proofs.Unique.{same-refusal}
use Rattle.pack.specs.Pack.{Answer, Word, Song, Shuffle, Done, Refused, BadShuffle, card_of, card_at}
use Rattle.pack.specs.Reader.{PackCard, PackJudged, Read, read_at, told, told_of, reader_of, Moved, Moves, judged}
use Rattle.pack.specs.Reader.{said, said_bad, verdict}
use Rattle.pack.specs.declared.Kind.{Kind}
use Rattle.pack.specs.declared.Card.{Card}
use Rattle.pack.specs.declared.Bad.{Bad}
use Rattle.pack.specs.declared.Rejected.{Rejected}
use Rattle.pack.specs.declared.Reader.{Reader}

-- ---- the document's words tell answers apart

wrong : ℕ → ℕ → Bad
wrong n bad =
    cond (eqb n 12) Bad.CutShort (cond (eqb n 13) Bad.CountOrLength (cond (eqb n 15) Bad.LeftOver (Bad.BadShuffle bad)))

heard : Answer → Result (Option Card) Bad
heard (Word start n) = Ok (Some (record { kind = Kind.Word; start = start; length = n }))
heard (Song start n) = Ok (Some (record { kind = Kind.Song; start = start; length = n }))
heard (Shuffle start n) = Ok (Some (record { kind = Kind.Shuffle; start = start; length = n }))
heard Done = Ok None
heard (Refused r) = Err (wrong r 0)
heard (BadShuffle entry) = Err (Bad.BadShuffle entry)

heard-card : (kind : Kind) (start n : ℕ)
    → heard (card_of kind start n) ≡ Ok (Some (record { kind = kind; start = start; length = n }))
unfolding heard
heard-card Kind.Word start n = refl
heard-card Kind.Song start n = refl
heard-card Kind.Shuffle start n = refl

heard-said : (r : Result (Option Card) Bad) → heard (said r) ≡ r
unfolding heard wrong
heard-said (Ok (Some c)) = heard-card c.kind c.start c.length
heard-said (Ok None) = refl
heard-said (Err Bad.CutShort) = refl
heard-said (Err Bad.CountOrLength) = refl
heard-said (Err (Bad.BadShuffle entry)) = refl
heard-said (Err Bad.LeftOver) = refl

same-said : {a b : Result (Option Card) Bad} → said a ≡ said b → a ≡ b
same-said {a} {b} e = sym (heard-said a) ∙ ap heard e ∙ heard-said b

rejudged : PackJudged → Result ℕ Rejected
rejudged j = cond (eqb j.number 0) (Ok j.cards) (Err (record { cards = j.cards; why = wrong j.number j.bad }))

rejudged-is : (r : Result ℕ Rejected) → rejudged (verdict r) ≡ r
unfolding rejudged wrong told_of
rejudged-is (Ok n) = refl
rejudged-is (Err r) = by r.cards r.why
  where
    by : (n : ℕ) (why : Bad) → rejudged (verdict (Err (record { cards = n; why = why })))
        ≡ Err (record { cards = n; why = why })
    by n Bad.CutShort = refl
    by n Bad.CountOrLength = refl
    by n (Bad.BadShuffle entry) = refl
    by n Bad.LeftOver = refl

-- ---- the public functions

pub card-at-unique : (s : List ℕ) (place : ℕ) {a b : Result (Option Card) Bad} → said a ≡ card_at s place
    → said b ≡ card_at s place → a ≡ b
card-at-unique s place p q = same-said (same p q)

pub read-at-unique : (s : List ℕ) (place : ℕ) {a b : Result (Option Card) Bad} {m n : ℕ}
    → record { card = said a; next = m } ≡ read_at s place → record { card = said b; next = n } ≡ read_at s place
    → (a ≡ b) × (m ≡ n)
read-at-unique s place p q =
    let e = same p q in (same-said (ap (λ (r : Read). r.card) e), ap (λ (r : Read). r.next) e)

pub told-at-unique : (s : List ℕ) (place : ℕ) {a b : PackCard} → a ≡ told (read_at s place) → b ≡ told (read_at s place)
    → a ≡ b
told-at-unique s place = same

pub judge-unique : (s : List ℕ) {a b : Result ℕ Rejected} → verdict a ≡ judged s → verdict b ≡ judged s → a ≡ b
judge-unique s {a} {b} p q = sym (rejudged-is a) ∙ ap rejudged (same p q) ∙ rejudged-is b

pub reader-of-unique : (s : Bor (List ℕ)) {a b : Reader} → a ≡ reader_of s → b ≡ reader_of s → a ≡ b
reader-of-unique s = same

pub next-unique : (r : Reader) {c d : Result (Option Card) Bad} {a b : Reader} → Moves (said c) r a → Moves (said d) r b
    → (c ≡ d) × (a ≡ b)
next-unique r e f =
    let g = same e f in (same-said (ap (λ (m : Moved). m.card) g), ap (λ (m : Moved). m.reader) g)

pub number-unique : (kind : Kind) {m n : ℕ} → m ≡ (told_of (card_of kind 0 0) 0).kind
    → n ≡ (told_of (card_of kind 0 0) 0).kind → m ≡ n
number-unique kind = same

pub refusal-unique : (bad : Bad) {m n : Refusal} → number_of_refusal m ≡ (told_of (said_bad bad) 0).number
    → number_of_refusal n ≡ (told_of (said_bad bad) 0).number → m ≡ n
refusal-unique bad {m} {n} em en = same-refusal m n (same em en)

pub entry-unique : (bad : Bad) {m n : ℕ} → m ≡ (told_of (said_bad bad) 0).bad → n ≡ (told_of (said_bad bad) 0).bad
    → m ≡ n
entry-unique bad = same
