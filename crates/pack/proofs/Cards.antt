-- What the cards of a pack have in common, whatever its bytes.
use mathlib.Core.Path.{◌≡◌, refl, sym, ap, subst⁻¹, ◌∙◌}
use mathlib.Core.Bool.{Bool, true, false, cond, true≢false}
use mathlib.Core.List.{List, [], ◌∷◌}
use Prim.Native.Nat.{ℕ, zero, suc, ◌+◌, ◌<◌, ◌≤◌}
use native.Mathlib.Decide.{dec_le}
use native.Mathlib.Omega.{arith}
use lib.Dec.{ltb}
use lib.ListN.{length, get_or, get_or-eq_default}
use Rattle.words.specs.Block.{part}
use Rattle.answers.specs.Answers.{number_of}
use Rattle.pack.specs.Pack.{Answer, Shuffle, Done, Refused, BadShuffle}
use Rattle.pack.specs.Pack.{Reading, ends, gives, answer_at, first_bad, words, songs, card_of, number_at, item_rows}
use Rattle.pack.specs.Pack.{item, many, counted, after_last, shuffle, reading, card_at}
use Rattle.pack.specs.Reader.{told_of, is_card, read_at, judged}
use Rattle.pack.specs.Demands.{start_of, end_of}
use Rattle.std.specs.Prelude.{Some, Ok, Err}
use Rattle.pack.specs.declared.Card.{Card}
use Rattle.pack.specs.Reader.{Moved, Moves, said_bad, said, verdict}
use Rattle.pack.specs.declared.Bad.{Bad}
use Rattle.pack.specs.declared.Reader.{Reader}
use Rattle.pack.specs.declared.Kind.{Kind}
use Rattle.pack.specs.declared.items.Shape.{Shape}
use Rattle.pack.specs.Reader.{Read}
use Rattle.pack.proofs.Steps.{item-goes, item-ends, item-whole, item-least, item-most}

-- ---- cards that lie one behind the other, from a place on

abbrev pub Lie : ℕ → List Answer → ℕ → Type 0
Lie from [] to = from ≤ to
Lie from (c ∷ cs) to = (is_card c ≡ true) × (from ≤ start_of c) × (start_of c < end_of c) × Lie (end_of c) cs to

lie-sooner : (a b : ℕ) (cs : List Answer) (to : ℕ) → a ≤ b → Lie b cs to → Lie a cs to
lie-sooner a b [] to h l = omega arith
lie-sooner a b (c ∷ cs) to h l = (l.0, omega (arith, l.1), l.2, l.3)

-- what is no card, and is done if its number is 0
abbrev pub Ends : Answer → Type 0
Ends c = (is_card c ≡ false) × ((told_of c 0).number ≡ 0 → c ≡ Done)

refused-ends : (r : ℕ) → (r ≡ 0 → ⊥) → Ends (Refused r)
unfolding is_card told_of
refused-ends r h = (refl, λ e. absurd (h e))

bad-ends : (i : ℕ) → Ends (BadShuffle i)
unfolding is_card told_of
bad-ends i = (refl, λ e. absurd (omega arith))

done-ends : Ends Done
unfolding is_card
done-ends = (refl, λ e. refl)

-- at most n cards from a place on, then what is none
pub record Sound (s : List ℕ) (n from : ℕ) (r : Reading) : Type 0 where
  pub lie : Lie from r.cards (length s)
  pub few : length r.cards ≤ n
  pub ended : Ends r.ending

module _ (s : List ℕ) where
  sooner : (m n a b : ℕ) (r : Reading) → m ≤ n → a ≤ b → Sound s m b r → Sound s n a r
  sooner m n a b r hm h d =
      record { lie = lie-sooner a b r.cards (length s) h d.lie; few = omega (arith, d.few); ended = d.ended }

  ends-sound : (n at : ℕ) (c : Answer) → at ≤ length s → Ends c → Sound s n at (ends c)
  ends-sound n at c h e = record { lie = h; few = omega arith; ended = e }

  refused-sound : (n at r : ℕ) → at ≤ length s → (r ≡ 0 → ⊥) → Sound s n at (ends (Refused r))
  refused-sound n at r h e = ends-sound n at (Refused r) h (refused-ends r e)

  -- an item that is not refused is wholly there and allowed
  pub record Allowed (at width : ℕ) (counts : Bool) (least most : ℕ) : Type 0 where
    pub fits : at + width + cond counts (number_at s at width) 0 ≤ length s
    pub least-is : least ≤ number_at s at width
    pub most-is : number_at s at width ≤ most

  pub item-has : (P : Reading → Type 0) (at width : ℕ) (counts : Bool) (least most : ℕ) (f : ℕ → Reading)
      → ((r : ℕ) → (r ≡ 0 → ⊥) → P (ends (Refused r))) → (Allowed at width counts least most → P (f
      (number_at s at width)))
      → P (item s at width counts least most f)
  item-has P at width counts least most f ended goes =
      by (number_of (item_rows s at width counts least most)) refl
    where
      by : (r : ℕ) → r ≡ number_of (item_rows s at width counts least most) → P (item s at width counts least most f)
      by zero e =
          subst⁻¹ P (item-goes s at width counts least most e refl f)
          (goes (record {
            fits = item-whole s at width counts least most e refl;
            least-is = item-least s at width counts least most e refl;
            most-is = item-most s at width counts least most e refl;
          }))
      by (suc r) e = subst⁻¹ P (item-ends s at width counts least most e (λ z. omega arith) f) (ended (suc r)
          (λ z. omega arith))

  card-start : (kind : Kind) (a n : ℕ) → start_of (card_of kind a n) ≡ a
  unfolding told_of
  card-start Kind.Word a n = refl
  card-start Kind.Song a n = refl
  card-start Kind.Shuffle a n = refl

  card-end : (kind : Kind) (a n : ℕ) → end_of (card_of kind a n) ≡ a + n
  unfolding told_of
  card-end Kind.Word a n = refl
  card-end Kind.Song a n = refl
  card-end Kind.Shuffle a n = refl

  pub card-is : (kind : Kind) (a n : ℕ) → is_card (card_of kind a n) ≡ true
  unfolding is_card
  card-is Kind.Word a n = refl
  card-is Kind.Song a n = refl
  card-is Kind.Shuffle a n = refl

  many-sound : (k : Shape) (m n at : ℕ) (f : ℕ → Reading) → at ≤ length s
      → ((at' : ℕ) → at' ≤ length s → Sound s m at' (f at')) → Sound s (n + m) at (many s k n at f)
  unfolding many
  many-sound k m zero at f h d = sooner m (zero + m) at at (f at) (omega arith) (omega arith) (d at h)
  many-sound k m (suc n) at f h d =
      item-has (λ r. Sound s (suc n + m) at r) at k.width true 1 k.longest _
      (λ r. refused-sound (suc n + m) at r h)
      (λ a.
      let l = number_at s at k.width in
      let c = card_of k.kind (at + k.width) l in
      let rest = many-sound k m n (at + k.width + l) f a.fits d in
      let from : at ≤ start_of c = omega (arith, card-start k.kind (at + k.width) l) in
      let some : start_of c < end_of c =
      omega (arith, card-start k.kind (at + k.width) l, card-end k.kind (at + k.width) l, a.least-is) in
      record {
        lie = (
          card-is k.kind (at + k.width) l,
          from,
          some,
          lie-sooner (end_of c) (at + k.width + l) (many s k n (at + k.width + l) f).cards (length s) (omega
              (arith, card-end k.kind (at + k.width) l))
              rest.lie,
        );
        few = omega (arith, rest.few);
        ended = rest.ended;
      })

  counted-sound : (k : Shape) (m at : ℕ) (f : ℕ → ℕ → Reading) → at ≤ length s
      → ((n at' : ℕ) → k.least ≤ n → at' ≤ length s → Sound s m at' (f n at'))
      → Sound s (k.most + m) at (counted s k at f)
  unfolding counted
  counted-sound k m at f h d =
      item-has (λ r. Sound s (k.most + m) at r) at 1 false k.least k.most _
      (λ r. refused-sound (k.most + m) at r h)
      (λ a.
      let n = number_at s at 1 in
      sooner (n + m) (k.most + m) at (at + 1) _ (omega (arith, a.most-is)) (omega arith)
      (many-sound k m n (at + 1) (f n) (omega (arith, a.fits)) (λ at'. d n at' a.least-is)))

  after-last-sound : (at : ℕ) → at ≤ length s → Sound s 0 at (after_last s at)
  unfolding is_card
  after-last-sound at h = by (ltb at (length s))
    where
      by : (t : Bool) → Sound s 0 at (ends (cond t (Refused 15) Done))
      by true = ends-sound 0 at (Refused 15) h (refused-ends 15 (λ e. omega arith))
      by false = ends-sound 0 at Done h done-ends

  shuffle-sound : (n at : ℕ) → 1 ≤ n → at ≤ length s → Sound s 1 at (shuffle s n at)
  unfolding shuffle is_card told_of
  shuffle-sound n at some h =
      item-has (λ r. Sound s 1 at r) at 1 true n n _ (λ r. refused-sound 1 at r h)
      (λ a. let l = number_at s at 1 in let b = first_bad (part s (at + 1) l) in
      by l b a.fits (omega (arith, a.least-is)) (ltb b l))
    where
      by : (l b : ℕ) → at + 1 + l ≤ length s → 1 ≤ l → (t : Bool)
          → Sound s 1 at (cond t (ends (BadShuffle b)) (gives (Shuffle (at + 1) l) (after_last s (at + 1 + l))))
      by l b fits one true = ends-sound 1 at (BadShuffle b) h (bad-ends b)
      by l b fits one false =
          let rest = after-last-sound (at + 1 + l) fits in
          record {
            lie = (refl, omega arith, omega arith, rest.lie);
            few = omega (arith, rest.few);
            ended = rest.ended;
          }

  pub sound : Sound s 14 0 (reading s)
  unfolding reading
  sound =
      counted-sound words 2 0 _ (omega arith)
      (λ n at some h. counted-sound songs 1 at _ h (λ _ at' _ h'. shuffle-sound n at' some h'))

-- ---- what is answered at a place

-- a card there is one of them, what is none is what ends them
module _ (r : Reading) where
  pub past : (p : ℕ) → length r.cards ≤ p → answer_at r p ≡ r.ending
  unfolding answer_at
  past p h = get_or-eq_default r.cards r.ending h

  pub before : {s : List ℕ} {n from p : ℕ} → Sound s n from r → is_card (answer_at r p) ≡ true → p < length r.cards
  before {p = p} d e =
      elim (dec_le (length r.cards) p) [
        | yes h ↦ absurd (true≢false (sym e ∙ ap is_card (past p h) ∙ d.ended.0))
        | no h ↦ omega arith
      ]

card-in : (from : ℕ) (cs : List Answer) (to : ℕ) (e : Answer) (p : ℕ) → Lie from cs to → p < length cs
    → is_card (get_or cs p e) ≡ true
card-in from [] to e p l h = absurd (omega arith)
card-in from (c ∷ cs) to e zero l h = l.0
card-in from (c ∷ cs) to e (suc p) l h = card-in (end_of c) cs to e p l.3 (omega arith)

module _ (s : List ℕ) (p : ℕ) where
  pub card-place : is_card (card_at s p) ≡ true → (p < length (reading s).cards) × (p < 14)
  unfolding card_at
  card-place e = let h = before (reading s) (sound s) e in (h, omega (arith, (sound s).few))

  pub card-before : p < length (reading s).cards → is_card (card_at s p) ≡ true
  unfolding card_at answer_at
  card-before h = card-in 0 (reading s).cards (length s) (reading s).ending p (sound s).lie h

  pub end-place : is_card (card_at s p) ≡ false → length (reading s).cards ≤ p
  end-place e =
      elim (dec_le (length (reading s).cards) p) [
        | yes h ↦ h
        | no h ↦ absurd (true≢false (sym (card-before (omega arith)) ∙ e))
      ]

  pub end_is : is_card (card_at s p) ≡ false → card_at s p ≡ (reading s).ending
  unfolding card_at
  end_is e = past (reading s) p (end-place e)

  pub read-card : {c : Answer} → c ≡ card_at s p → is_card c ≡ true → record { card = c; next = p + 1 } ≡ read_at s p
  unfolding read_at
  read-card ec e = rw (sym ec, e) refl

  pub read-end : {c : Answer} → c ≡ card_at s p → is_card c ≡ false → record { card = c; next = p } ≡ read_at s p
  unfolding read_at
  read-end ec e = rw (sym ec, e) refl

  -- what is read there, taken apart
  pub read_is : {r : Read} → r ≡ read_at s p → r.card ≡ card_at s p
  unfolding read_at
  read_is e = ap (λ (r : Read). r.card) e

  pub read_next : {r : Read} → r ≡ read_at s p → is_card r.card ≡ true → r.next ≡ p + 1
  unfolding read_at
  read_next e is = ap (λ (r : Read). r.next) e ∙ rw (sym (ap is_card (read_is e)) ∙ is) refl

  -- where a walk that has passed all cards before p ends
  pub judged-is : p ≤ length (reading s).cards → {c : Answer} {number bad : ℕ} → c ≡ card_at s p → is_card c ≡ false
      → number ≡ (told_of c 0).number → bad ≡ (told_of c 0).bad
      → record { number = number; cards = p; bad = bad } ≡ judged s
  unfolding judged
  judged-is h {c} ec e en eb =
      let e' : is_card (card_at s p) ≡ false = sym (ap is_card ec) ∙ e in
      let k : p ≡ length (reading s).cards = omega (arith, end-place e') in
      rw (en, eb, ec, end_is e') (ap (λ (n : ℕ). record {
        number = (told_of (reading s).ending 0).number;
        cards = n;
        bad = (told_of (reading s).ending 0).bad;
      }) k)

-- ---- what the code answers, in the document's words

pub card-said : (c : Card) → is_card (said (Ok (Some c))) ≡ true
card-said c = card-is [] c.kind c.start c.length

-- what is wrong is no card
pub bad-is : (bad : Bad) → is_card (said_bad bad) ≡ false
unfolding is_card
bad-is Bad.CutShort = refl
bad-is Bad.CountOrLength = refl
bad-is (Bad.BadShuffle entry) = refl
bad-is Bad.LeftOver = refl

pub done-is : is_card Done ≡ false
unfolding is_card
done-is = refl

module _ (r : Reader) {c : Answer} (ec : c ≡ card_at r.pack.now r.place) where
  -- the reader with its place after the answer
  abbrev after : Read → Moved
  after t = record { card = t.card; reader = record { pack = r.pack; place = t.next } }

  pub moves_on : is_card c ≡ true → Moves c r (record { pack = r.pack; place = r.place + 1 })
  moves_on e = ap after (read-card r.pack.now r.place ec e)

  pub stays : is_card c ≡ false → Moves c r r
  stays e = ap after (read-end r.pack.now r.place ec e)

module _ (s : List ℕ) (p : ℕ) (h : p ≤ length (reading s).cards) where
  pub verdict-done : Done ≡ card_at s p → verdict (Ok p) ≡ judged s
  unfolding told_of
  verdict-done e = judged-is s p h e done-is refl refl

  pub verdict-bad : (bad : Bad) → said_bad bad ≡ card_at s p
      → verdict (Err (record { cards = p; why = bad })) ≡ judged s
  verdict-bad bad e = judged-is s p h e (bad-is bad) refl refl
