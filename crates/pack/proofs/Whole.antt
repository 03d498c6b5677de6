-- A pack that is accepted is its items, one behind the other.
use mathlib.Core.Path.{◌≡◌, refl, sym, ap, ap₂, subst, ◌∙◌}
use mathlib.Core.Bool.{Bool, true, false, cond}
use mathlib.Core.List.{List, [], ◌∷◌, ◌++◌, append_assoc}
use Prim.Native.Nat.{ℕ, zero, suc, ◌+◌, ◌*◌, ◌≤◌}
use native.Mathlib.Nat.{suc-mul}
use native.Mathlib.Omega.{arith}
use lib.Dec.{ltb}
use lib.ListN.{length, drop, take-append-drop, drop_of_length-le}
use lib.Seq.{drop-drop}
use borrow.Author.Tests.{ltb-false}
use Rattle.words.specs.Block.{part}
use Rattle.words.specs.Bytes.{Bytes, bytes}
use Rattle.words.proofs.Bytes.{bytes_take, bytes_drop, bytes-number}
use Rattle.words.proofs.Lists.{length_part}
use Rattle.pack.specs.Pack.{Answer, Shuffle, Done, Refused, BadShuffle}
use Rattle.pack.specs.Pack.{Reading, ends, gives, first_bad, words, songs, card_of, number_at}
use Rattle.pack.specs.Pack.{many, counted, after_last, shuffle, reading}
use Rattle.pack.specs.Reader.{told_of}
use Rattle.pack.specs.Demands.{items, AllOf, NoLonger, Once, Whole}
use Rattle.pack.specs.declared.Kind.{Kind}
use Rattle.pack.specs.declared.items.Shape.{Shape}
use Rattle.pack.proofs.Cards.{item-has}
use Rattle.pack.proofs.Places.{places-once}

not-refused : (r : ℕ) → Refused r ≡ Done → ⊥
not-refused r e = let z : ◌≡◌ {A = ℕ} 0 1 = cc in omega arith

not-bad : (i : ℕ) → BadShuffle i ≡ Done → ⊥
not-bad i e = let z : ◌≡◌ {A = ℕ} 0 1 = cc in omega arith

abbrev numbered : Kind → ℕ
numbered Kind.Word = 1
numbered Kind.Song = 2
numbered Kind.Shuffle = 3

card-values : (kind : Kind) (a l : ℕ) → let t = told_of (card_of kind a l) 0 in
    (t.kind ≡ numbered kind) × (t.start ≡ a) × (t.length ≡ l)
unfolding told_of
card-values Kind.Word a l = (refl, refl, refl)
card-values Kind.Song a l = (refl, refl, refl)
card-values Kind.Shuffle a l = (refl, refl, refl)

laid : (a b c d : List ℕ) {x y : List ℕ} → x ≡ a ++ (b ++ y) → y ≡ c ++ d → x ≡ a ++ (b ++ c) ++ d
laid a b c d e f =
    e ∙ ap (λ (t : List ℕ). a ++ (b ++ t)) f ∙ ap (λ (t : List ℕ). a ++ t) (sym (append_assoc b c d))
    ∙ sym (append_assoc a (b ++ c) d)

module _ (s : List ℕ) (h : Bytes s) where
  -- what is behind a place, cut after n bytes
  cut : (at n : ℕ) → drop at s ≡ part s at n ++ drop (at + n) s
  cut at n = sym (take-append-drop n (drop at s)) ∙ ap (λ (l : List ℕ). part s at n ++ l) (drop-drop n at s)

  -- where these are there, they are those of their number
  head : (at n : ℕ) → at + n ≤ length s → drop at s ≡ bytes n (number_at s at n) ++ drop (at + n) s
  head at n fits =
      let l : length (part s at n) ≡ n = length_part s at n (omega arith) in
      cut at n ∙ ap (λ (l : List ℕ). l ++ drop (at + n) s)
      (sym (bytes-number (part s at n) (bytes_take n (drop at s) (bytes_drop at s h)))
      ∙ ap (λ (k : ℕ). bytes k (number_at s at n)) l)

  -- an item with bytes behind its number
  item-bytes : (at width : ℕ) → at + width + number_at s at width ≤ length s → let l = number_at s at width in
      drop at s ≡ bytes width l ++ (part s (at + width) l ++ drop (at + width + l) s)
  item-bytes at width fits =
      head at width (omega arith) ∙ ap (λ (l : List ℕ). bytes width (number_at s at width) ++ l)
      (cut (at + width) (number_at s at width))

  -- ---- the cards that a stretch passes

  record Run (k : Shape) (at n : ℕ) (f : ℕ → Reading) (r : Reading) : Type 0 where
    pub passed : List Answer
    pub to : ℕ
    pub cards-are : r.cards ≡ passed ++ (f to).cards
    pub ending-is : r.ending ≡ (f to).ending
    pub count-is : length passed ≡ n
    pub kinds-are : AllOf (numbered k.kind) passed
    pub bytes-are : drop at s ≡ items s k.width passed ++ drop to s
    pub lengths-are : NoLonger k.longest passed
    pub to-most : to ≤ at + n * (k.width + k.longest)

  -- one card more in front
  run_on : (k : Shape) (at n : ℕ) (f : ℕ → Reading) (r : Reading) → let l = number_at s at k.width in
      at + k.width + l ≤ length s → l ≤ k.longest → Run k (at + k.width + l) n f r
      → Run k at (suc n) f (gives (card_of k.kind (at + k.width) l) r)
  run_on k at n f r fits most run =
      let l = number_at s at k.width in
      let c = card_of k.kind (at + k.width) l in
      let v = card-values k.kind (at + k.width) l in
      record {
        passed = c ∷ run.passed;
        to = run.to;
        cards-are = ap (λ (cs : List Answer). c ∷ cs) run.cards-are;
        ending-is = run.ending-is;
        count-is = ap suc run.count-is;
        kinds-are = (v.0, run.kinds-are);
        lengths-are = (omega (arith, v.2, most), run.lengths-are);
        bytes-are = rw (v.1, v.2)
            (laid (bytes k.width l) (part s (at + k.width) l) (items s k.width run.passed) (drop run.to s)
            (item-bytes at k.width fits) run.bytes-are);
        to-most = omega (arith, run.to-most, most, suc-mul n (k.width + k.longest));
      }

  many-run : (k : Shape) (n at : ℕ) (f : ℕ → Reading) → (many s k n at f).ending ≡ Done
      → Run k at n f (many s k n at f)
  unfolding many
  many-run k zero at f =
      λ e. record {
        passed = [];
        to = at;
        cards-are = refl;
        ending-is = refl;
        count-is = refl;
        kinds-are = tt;
        bytes-are = refl;
        lengths-are = tt;
        to-most = omega arith;
      }
  many-run k (suc n) at f =
      item-has s (λ r. r.ending ≡ Done → Run k at (suc n) f r) at k.width true 1 k.longest _
      (λ r _ e. absurd (not-refused r e))
      (λ a e. run_on k at n f _ a.fits a.most-is (many-run k n _ f e))

  -- their count, then they
  record Counted (k : Shape) (at : ℕ) (f : ℕ → ℕ → Reading) (r : Reading) : Type 0 where
    pub n : ℕ
    pub n-least : k.least ≤ n
    pub n-most : n ≤ k.most
    pub run : Run k (at + 1) n (f n) r
    pub bytes-are : drop at s ≡ bytes 1 n ++ drop (at + 1) s

  counted-run : (k : Shape) (at : ℕ) (f : ℕ → ℕ → Reading) → (counted s k at f).ending ≡ Done
      → Counted k at f (counted s k at f)
  unfolding counted
  counted-run k at f =
      item-has s (λ r. r.ending ≡ Done → Counted k at f r) at 1 false k.least k.most _
      (λ r _ e. absurd (not-refused r e))
      (λ a e. record {
        n = number_at s at 1;
        n-least = a.least-is;
        n-most = a.most-is;
        run = many-run k (number_at s at 1) (at + 1) (f (number_at s at 1)) e;
        bytes-are = head at 1 (omega (arith, a.fits));
      })

  -- the shuffle, and nothing behind it
  record Shuffled (n at : ℕ) (r : Reading) : Type 0 where
    pub card : Answer
    pub kind-is : (told_of card 0).kind ≡ 3
    pub cards-are : r.cards ≡ card ∷ []
    pub bytes-are : drop at s ≡ items s 1 (card ∷ [])
    pub places : Once n (part s (told_of card 0).start (told_of card 0).length)
    pub ends_at : length s ≤ at + 1 + n

  shuffle-run : (n at : ℕ) → (shuffle s n at).ending ≡ Done → Shuffled n at (shuffle s n at)
  unfolding shuffle told_of
  shuffle-run n at =
      item-has s (λ r. r.ending ≡ Done → Shuffled n at r) at 1 true n n _ (λ r _ e. absurd (not-refused r e))
      (λ a. by a.fits (omega (arith, a.least-is, a.most-is)) (ltb (first_bad (part s (at + 1) (number_at s at 1))) _)
      refl)
    where
      over : (t : Bool) → cond t (Refused 15) Done ≡ Done → t ≡ false
      over true e = absurd (not-refused 15 e)
      over false e = refl

      by : let l = number_at s at 1 in let b = first_bad (part s (at + 1) l) in
          at + 1 + l ≤ length s → l ≡ n → (t : Bool) → ltb b l ≡ t
          → (cond t (ends (BadShuffle b)) (gives (Shuffle (at + 1) l) (after_last s (at + 1 + l)))).ending ≡ Done
          → Shuffled n at (cond t (ends (BadShuffle b)) (gives (Shuffle (at + 1) l) (after_last s (at + 1 + l))))
      by fits en true et e = absurd (not-bad _ e)
      by fits en false et e =
          let l = number_at s at 1 in
          let entries : length (part s (at + 1) l) ≡ l = length_part s (at + 1) l (omega arith) in
          let none = ltb-false (first_bad (part s (at + 1) l)) l et in
          let short : length s ≤ at + 1 + l =
          ltb-false (at + 1 + l) (length s) (over (ltb (at + 1 + l) (length s)) e) in
          record {
            card = Shuffle (at + 1) l;
            kind-is = refl;
            cards-are = refl;
            bytes-are = item-bytes at 1 fits
                ∙ ap (λ (t : List ℕ). bytes 1 l ++ (part s (at + 1) l ++ t)) (drop_of_length-le s short);
            places = places-once (part s (at + 1) l) (omega (arith, none, entries)) (entries ∙ en);
            ends_at = omega arith;
          }

  pub whole : (reading s).ending ≡ Done → Whole s
  unfolding reading
  whole e =
      let w = counted-run words 0 _ e in
      let e₁ = sym w.run.ending-is ∙ e in
      let v = counted-run songs w.run.to _ e₁ in
      let e₂ = sym v.run.ending-is ∙ e₁ in
      let z = shuffle-run w.n v.run.to e₂ in
      record {
        words = w.run.passed;
        songs = v.run.passed;
        shuffle = z.card;
        kinds = (w.run.kinds-are, v.run.kinds-are, z.kind-is);
        counts = (
          omega (arith, w.n-least, w.run.count-is),
          omega (arith, w.n-most, w.run.count-is),
          omega (arith, v.n-most, v.run.count-is),
        );
        lengths = (w.run.lengths-are, v.run.lengths-are);
        cards = w.run.cards-are ∙ ap (λ (cs : List Answer). w.run.passed ++ cs)
            (v.run.cards-are ∙ ap (λ (cs : List Answer). v.run.passed ++ cs) z.cards-are);
        is = w.bytes-are ∙ ap₂ (λ (n : ℕ) (t : List ℕ). bytes 1 n ++ t) (sym w.run.count-is)
            (w.run.bytes-are ∙ ap (λ (t : List ℕ). items s 1 w.run.passed ++ t)
            (v.bytes-are ∙ ap₂ (λ (n : ℕ) (t : List ℕ). bytes 1 n ++ t) (sym v.run.count-is)
            (v.run.bytes-are ∙ ap (λ (t : List ℕ). items s 2 v.run.passed ++ t) z.bytes-are)));
        places = subst (λ (n : ℕ). Once n (part s (told_of z.card 0).start (told_of z.card 0).length))
            (sym w.run.count-is) z.places;
        most = omega (arith, w.n-most, w.run.to-most, v.n-most, v.run.to-most, z.ends_at);
      }
