-- The steps of the walk over items, as the code takes them.
use mathlib.Core.Path.{◌≡◌, refl, sym, ap, ◌∙◌}
use mathlib.Core.Bool.{Bool, true, false, cond}
use mathlib.Core.List.{List}
use Prim.Native.Nat.{ℕ, zero, suc, ◌+◌, ◌-◌, ◌^◌, ◌<◌, ◌≤◌}
use native.Mathlib.Omega.{arith}
use lib.Dec.{ltb}
use Rattle.std.specs.Prelude.{Result, Ok, Err}
use lib.ListN.{length, take, drop}
use native.Mathlib.Nat.{lt_of_lt_of_le, pow-le-pow_right}
use borrow.Author.Tests.{eq-eqb, ne_eqb, ltb-false, lt-ltb, le-ltb}
use Rattle.words.specs.declared.Block.{Block}
use Rattle.words.specs.Block.{halves, loaded, part}
use Rattle.words.specs.Bytes.{Bytes}
use Rattle.words.proofs.WordLists.{loaded_word, word_lt}
use Rattle.answers.specs.Answers.{Row, number_of}
use Rattle.words.proofs.Lists.{length_part}
use Rattle.answers.proofs.Answers.{judged-clear}
use Rattle.pack.specs.Pack.{Answer, Shuffle, Done, Refused, BadShuffle}
use Rattle.pack.specs.Pack.{Reading, ends, gives, answer_at, first_bad, words, songs, card_of, number_at, item_rows}
use Rattle.pack.specs.Pack.{item, many, counted, after_last, shuffle, reading, card_at}
use Rattle.pack.specs.declared.items.Shape.{Shape}
use Rattle.pack.specs.declared.items.Stop.{Stop}
use Rattle.pack.specs.declared.items.Behind.{Behind}
use Rattle.pack.specs.Stretch.{stopped, settled, reached, Settles}

-- ---- what is answered at a place

pub answer-ends : (c : Answer) (place : ℕ) → answer_at (ends c) place ≡ c
unfolding answer_at
answer-ends c place = refl

pub answer-first : (c : Answer) (r : Reading) {place : ℕ} → place ≡ 0 → answer_at (gives c r) place ≡ c
unfolding answer_at
answer-first c r e = rw e refl

pub answer-next : (c : Answer) (r : Reading) (place : ℕ) → (place ≡ 0 → ⊥) → answer_at (gives c r) place ≡ answer_at r
    (place - 1)
unfolding answer_at
answer-next c r zero h = absurd (h refl)
answer-next c r (suc p) h = let e : suc p - 1 ≡ p = omega arith in rw e refl

-- ---- an item

module _ (s : List ℕ) (at width : ℕ) (counts : Bool) (least most : ℕ) {r : ℕ}
    (er : r ≡ number_of (item_rows s at width counts least most)) where
  pub item-goes : r ≡ 0 → (follows : ℕ → Reading)
      → item s at width counts least most follows ≡ follows (number_at s at width)
  unfolding item
  item-goes e follows = rw (eq-eqb _ _ (sym er ∙ e)) refl

  pub item-ends : (r ≡ 0 → ⊥) → (follows : ℕ → Reading) → item s at width counts least most follows ≡ ends (Refused r)
  unfolding item
  item-ends h follows = rw (sym er, ne_eqb _ _ h) refl

  -- it is wholly there
  pub item-whole : r ≡ 0 → at + width + cond counts (number_at s at width) 0 ≤ length s
  item-whole e = ltb-false _ _ (judged-clear (item_rows s at width counts least most) er tt e).0

  -- and its number is allowed
  pub item-least : r ≡ 0 → least ≤ number_at s at width
  item-least e = ltb-false _ _ (judged-clear (item_rows s at width counts least most) er tt e).1.0

  pub item-most : r ≡ 0 → number_at s at width ≤ most
  item-most e = ltb-false _ _ (judged-clear (item_rows s at width counts least most) er tt e).1.1.0

-- ---- what the code makes of an item

module _ (s : List ℕ) (h : Bytes s) (at width : ℕ) (hw : width ≤ 2) {b : Block} (eb : b ≡ halves (loaded s at width))
  where
    pub number_is : b.lo ≡ number_at s at width
    number_is = loaded_word s h at width eb (omega arith)

    pub number_small : b.lo < 65536
    number_small =
        let small : number_at s at width < 256 ^ 2 =
        lt_of_lt_of_le (word_lt s h at width) (pow-le-pow_right {n = 256} (omega arith) {i = width} {j = 2} hw) in
        omega (arith, number_is, small)

    module _ (counts : Bool) (least most : ℕ) (fits : at ≤ length s) {m : ℕ} (em : m ≡ cond counts b.lo 0) where
      abbrev rows : List Row
      rows = item_rows s at width counts least most

      length-is : at + width + m ≡ at + width + cond counts (number_at s at width) 0
      length-is = rw (em, number_is) refl

      pub is-cut : length s - at < width + m → number_of rows ≡ 12
      is-cut k =
          let l : length s < at + width + cond counts (number_at s at width) 0 = omega (arith, sym length-is) in
          rw (lt-ltb _ _ l) refl

      module _ (k : width + m ≤ length s - at) where
        not_cut : ltb (length s) (at + width + cond counts (number_at s at width) 0) ≡ false
        not_cut = le-ltb _ _ (omega (arith, sym length-is))

        pub too-few : b.lo < least → number_of rows ≡ 13
        too-few l = rw (not_cut, lt-ltb (number_at s at width) least (omega (arith, number_is))) refl

        pub too_many : most < b.lo → number_of rows ≡ 13
        too_many l =
            rw not_cut (by (ltb (number_at s at width) least))
          where
            by : (t : Bool) → ◌≡◌ {A = ℕ} (cond t 13 (cond (ltb most (number_at s at width)) 13 0)) 13
            by true = refl
            by false = rw (lt-ltb most (number_at s at width) (omega (arith, number_is))) refl

        pub is-allowed : least ≤ b.lo → b.lo ≤ most → number_of rows ≡ 0
        is-allowed l l' =
            rw (
              not_cut,
              le-ltb (number_at s at width) least (omega (arith, number_is)),
              le-ltb most (number_at s at width) (omega (arith, number_is)),
            ) refl

pub cond-most : (t : Bool) {m n : ℕ} → m ≡ cond t n 0 → m ≤ n
cond-most true e = omega arith
cond-most false e = omega arith

-- ---- cards of a kind

module _ (s : List ℕ) (k : Shape) where
  pub many-none : (n at : ℕ) (f : ℕ → Reading) → n ≡ 0 → many s k n at f ≡ f at
  unfolding many
  many-none n at f e = rw e refl

  many-next : (n at : ℕ) (f : ℕ → Reading) → 0 < n → many s k n at f
      ≡ item s at k.width true 1 k.longest
      (λ l. gives (card_of k.kind (at + k.width) l) (many s k (n - 1) (at + k.width + l) f))
  unfolding many
  many-next zero at f h = absurd (omega arith)
  many-next (suc n) at f h = let e : suc n - 1 ≡ n = omega arith in rw e refl

  -- n cards from place at on, with `here` cards more to be passed, are what is left of those that were asked for
  pub record Passing (count start place n at here : ℕ) : Type 0 where
    pub fits : at ≤ length s
    pub answers : (f : ℕ → Reading) → answer_at (many s k n at f) here ≡ answer_at (many s k count start f) place

  pub pass-start : (count start place : ℕ) → start ≤ length s → Passing count start place count start place
  pass-start count start place h = record { fits = h; answers = λ f. refl }

  module _ {count start place n at here : ℕ} (p : Passing count start place n at here) where
    -- the stretch that was asked for, as an entry of what follows it
    abbrev Asked : Result Behind Stop → Type 0
    Asked = Settles s (λ f. many s k count start (f count)) place

    pub pass_all : n ≡ 0 → Asked (Ok (record { count = count; at = at; place = here }))
    unfolding settled reached
    pass_all e =
        record {
          answers = λ f. sym (ap (λ (x : Reading). answer_at x here) (many-none n at (f count) e)) ∙ p.answers
              (f count);
          within = p.fits;
        }

    found : (stop : Stop) → ((f : ℕ → Reading) → stopped stop ≡ answer_at (many s k n at f) here) → Asked (Err stop)
    unfolding settled reached
    found stop h = record { answers = λ f. h (f count) ∙ p.answers (f count); within = omega arith }

    module _ {r : ℕ} (some : 0 < n) (er : r ≡ number_of (item_rows s at k.width true 1 k.longest)) where
      pub pass-ends : (r ≡ 0 → ⊥) → (stop : Stop) → stopped stop ≡ Refused r → Asked (Err stop)
      pass-ends h stop eb =
          found stop (λ f. eb ∙ sym (ap (λ (x : Reading). answer_at x here)
          (many-next n at f some ∙ item-ends s at k.width true 1 k.longest er h _) ∙ answer-ends (Refused r) here))

      module _ (e : r ≡ 0) {l : ℕ} (el : l ≡ number_at s at k.width) where
        pub pass_fits : at + k.width + l ≤ length s
        pass_fits = omega (arith, el, item-whole s at k.width true 1 k.longest er e)

        goes : (f : ℕ → Reading) → many s k n at f
            ≡ gives (card_of k.kind (at + k.width) l) (many s k (n - 1) (at + k.width + l) f)
        goes f = many-next n at f some ∙ item-goes s at k.width true 1 k.longest er e _ ∙ rw (sym el) refl

        pub pass-finds : here ≡ 0
            → Asked (Err (Stop.At (record { kind = k.kind; start = at + k.width; length = l })))
        pass-finds z =
            found (Stop.At (record { kind = k.kind; start = at + k.width; length = l }))
            (λ f. sym (ap (λ (x : Reading). answer_at x here) (goes f) ∙ answer-first _ _ z))

        pub pass_on : (here ≡ 0 → ⊥) → Passing count start place (n - 1) (at + k.width + l) (here - 1)
        pass_on z =
            record {
              fits = pass_fits;
              answers = λ f. sym (ap (λ (x : Reading). answer_at x here) (goes f) ∙ answer-next _ _ here z)
                  ∙ p.answers f;
            }

-- ---- how many there are, and they

module _ (s : List ℕ) (k : Shape) (at place : ℕ) {r : ℕ}
    (er : r ≡ number_of (item_rows s at 1 false k.least k.most)) where
  pub count-ends : (r ≡ 0 → ⊥) → (stop : Stop) → stopped stop ≡ Refused r
      → Settles s (counted s k at) place (Err stop)
  unfolding settled reached counted
  count-ends h stop eb =
      record {
        answers = λ f. eb ∙ sym (ap (λ (x : Reading). answer_at x place) (item-ends s at 1 false k.least k.most er h _)
            ∙ answer-ends (Refused r) place);
        within = omega arith;
      }

  pub count_fits : r ≡ 0 → at + 1 ≤ length s
  count_fits e = omega (arith, item-whole s at 1 false k.least k.most er e)

  pub count-goes : r ≡ 0 → {n : ℕ} → n ≡ number_at s at 1 → {t : Result Behind Stop}
      → Settles s (λ f. many s k n (at + 1) (f n)) place t → Settles s (counted s k at) place t
  unfolding counted
  count-goes e en t =
      record {
        answers = λ f. t.answers f ∙ sym (ap (λ (x : Reading). answer_at x place)
            (item-goes s at 1 false k.least k.most er e _ ∙ rw (sym en) refl));
        within = t.within;
      }

-- ---- the shuffle

module _ (s : List ℕ) (words at place : ℕ) {r : ℕ} (er : r ≡ number_of (item_rows s at 1 true words words)) where
  pub shuffle-ends : (r ≡ 0 → ⊥) → Refused r ≡ answer_at (shuffle s words at) place
  unfolding shuffle
  shuffle-ends h =
      sym (ap (λ (x : Reading). answer_at x place) (item-ends s at 1 true words words er h _)
      ∙ answer-ends (Refused r) place)

  module _ (e : r ≡ 0) {n : ℕ} (en : n ≡ number_at s at 1) where
    pub shuffle-fits : at + 1 + n ≤ length s
    shuffle-fits = omega (arith, en, item-whole s at 1 true words words er e)

    -- the entries, as the code cuts them out
    abbrev pub entries : List ℕ
    entries = take (at + 1 + n - (at + 1)) (drop (at + 1) s)

    pub entries-are : length entries ≡ n
    entries-are =
        let k : at + 1 + n - (at + 1) ≡ n = omega arith in
        rw k (length_part s (at + 1) n (omega (arith, shuffle-fits)))

    module _ {b : ℕ} (eb : b ≡ first_bad entries) where
      goes_to : shuffle s words at
          ≡ cond (ltb b n) (ends (BadShuffle b)) (gives (Shuffle (at + 1) n) (after_last s (at + 1 + n)))
      unfolding shuffle
      goes_to =
          let k : at + 1 + n - (at + 1) ≡ n = omega arith in
          let eb' : b ≡ first_bad (part s (at + 1) n) = eb ∙ ap (λ (m : ℕ). first_bad (part s (at + 1) m)) k in
          item-goes s at 1 true words words er e _ ∙ rw (sym en, eb') refl

      pub shuffle-bad : b < n → BadShuffle b ≡ answer_at (shuffle s words at) place
      shuffle-bad h =
          sym (ap (λ (x : Reading). answer_at x place) (goes_to ∙ rw (lt-ltb b n h) refl) ∙ answer-ends
          (BadShuffle b) place)

      module _ (h : n ≤ b) where
        good : shuffle s words at ≡ gives (Shuffle (at + 1) n) (after_last s (at + 1 + n))
        good = goes_to ∙ rw (le-ltb b n h) refl

        pub shuffle-finds : place ≡ 0 → Shuffle (at + 1) n ≡ answer_at (shuffle s words at) place
        shuffle-finds z = sym (ap (λ (x : Reading). answer_at x place) good ∙ answer-first _ _ z)

        pub shuffle-over : (place ≡ 0 → ⊥) → {c : Answer} → cond (ltb (at + 1 + n) (length s)) (Refused 15) Done ≡ c
            → c ≡ answer_at (shuffle s words at) place
        shuffle-over z ec =
            sym (ap (λ (x : Reading). answer_at x place) good ∙ answer-next _ _ place z
            ∙ answer-ends _ (place - 1) ∙ ec)

-- ---- the whole

module _ {s : List ℕ} {stretch : (ℕ → ℕ → Reading) → Reading} {place : ℕ} {t : Result Behind Stop}
    (w : Settles s stretch place t) (f : ℕ → ℕ → Reading) where
  settles-answer : {stop : Stop} → t ≡ Err stop → stopped stop ≡ answer_at (stretch f) place
  unfolding settled
  settles-answer et = sym (ap (λ (x : Result Behind Stop). settled x f) et) ∙ w.answers f

  settles_on : {b : Behind} → t ≡ Ok b → answer_at (f b.count b.at) b.place ≡ answer_at (stretch f) place
  unfolding settled
  settles_on et = sym (ap (λ (x : Result Behind Stop). settled x f) et) ∙ w.answers f

settles-within : {s : List ℕ} {stretch : (ℕ → ℕ → Reading) → Reading} {place : ℕ} {t : Result Behind Stop}
    → Settles s stretch place t → {b : Behind} → t ≡ Ok b → b.at ≤ length s
unfolding reached
settles-within w et = omega (arith, ap reached et, w.within)

-- the two kinds of cards, then the shuffle
abbrev after : List ℕ → ℕ → ℕ → Reading
after s n at = counted s songs at (λ _ at. shuffle s n at)

module _ {s : List ℕ} {place : ℕ} {t : Result Behind Stop} (w : Settles s (counted s words 0) place t) where
  whole : answer_at (counted s words 0 (after s)) place ≡ card_at s place
  unfolding card_at reading
  whole = refl

  pub words-answer : {stop : Stop} → t ≡ Err stop → stopped stop ≡ card_at s place
  words-answer et = settles-answer w (after s) et ∙ whole

  module _ {b : Behind} (et : t ≡ Ok b) where
    pub words-within : b.at ≤ length s
    words-within = settles-within w et

    module _ {t' : Result Behind Stop} (w' : Settles s (counted s songs b.at) b.place t') where
      rest : answer_at (counted s songs b.at (λ _ at. shuffle s b.count at)) b.place ≡ card_at s place
      rest = settles_on w (after s) et ∙ whole

      pub songs-answer : {stop : Stop} → t' ≡ Err stop → stopped stop ≡ card_at s place
      songs-answer et' = settles-answer w' (λ _ at. shuffle s b.count at) et' ∙ rest

      module _ {b' : Behind} (et' : t' ≡ Ok b') where
        pub songs-within : b'.at ≤ length s
        songs-within = settles-within w' et'

        pub songs-on : {c : Answer} → c ≡ answer_at (shuffle s b.count b'.at) b'.place → c ≡ card_at s place
        songs-on ec = ec ∙ settles_on w' (λ _ at. shuffle s b.count at) et' ∙ rest
