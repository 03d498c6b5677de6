-- What K1 asks of every pack.
use mathlib.Core.Path.{◌≡◌, refl, sym, ap, ◌∙◌}
use mathlib.Core.Bool.{true, false}
use mathlib.Core.List.{List, [], ◌∷◌}
use Prim.Native.Nat.{ℕ, zero, suc, ◌+◌, ◌<◌, ◌≤◌, min}
use native.Mathlib.Decide.{dec_le}
use native.Mathlib.Omega.{arith}
use lib.ListN.{length, get_or}
use Rattle.pack.specs.Pack.{Answer, Done}
use Rattle.pack.specs.Pack.{answer_at, reading, card_at}
use Rattle.pack.specs.Reader.{told_of, is_card, read_at, judged}
use Rattle.pack.specs.Demands.{start_of, end_of, ended as told-ended, Demands}
use Rattle.pack.proofs.Cards.{Lie, sound, past, card-place, card-before, end-place, end_is}
use Rattle.words.specs.Iterate.{iterate}
use Rattle.pack.proofs.Told.{end-told}
use Rattle.pack.proofs.Whole.{whole}

-- ---- cards that lie one behind the other

lie-at : (from : ℕ) (cs : List Answer) (to : ℕ) (e : Answer) (p : ℕ) → Lie from cs to → p < length cs
    → let c = get_or cs p e in
    (from ≤ start_of c) × (start_of c < end_of c) × (end_of c ≤ to)
lie-at from [] to e p l h = absurd (omega arith)
lie-at from (c ∷ cs) to e zero l h = (l.1, l.2, lie-to (end_of c) cs to l.3)
  where
    lie-to : (from : ℕ) (cs : List Answer) (to : ℕ) → Lie from cs to → from ≤ to
    lie-to from [] to l = l
    lie-to from (c ∷ cs) to l = omega (arith, l.1, l.2, lie-to (end_of c) cs to l.3)
lie-at from (c ∷ cs) to e (suc p) l h =
    let r = lie-at (end_of c) cs to e p l.3 (omega arith) in (omega (arith, l.1, l.2, r.0), r.1, r.2)

lie-behind : (from : ℕ) (cs : List Answer) (to : ℕ) (e : Answer) (i j : ℕ) → Lie from cs to → i < j → j < length cs
    → end_of (get_or cs i e) ≤ start_of (get_or cs j e)
lie-behind from [] to e i j l h k = absurd (omega arith)
lie-behind from (c ∷ cs) to e i zero l h k = absurd (omega arith)
lie-behind from (c ∷ cs) to e zero (suc j) l h k = (lie-at (end_of c) cs to e j l.3 (omega arith)).0
lie-behind from (c ∷ cs) to e (suc i) (suc j) l h k =
    lie-behind (end_of c) cs to e i j l.3 (omega arith) (omega arith)

module _ (s : List ℕ) where
  kept : (p : ℕ) → is_card (card_at s p) ≡ false → (read_at s p).next ≡ p
  unfolding read_at
  kept p e = rw e refl

  again : (p more : ℕ) → is_card (card_at s p) ≡ false → card_at s (p + more) ≡ card_at s p
  unfolding card_at
  again p more e = past (reading s) (p + more) (omega (arith, end-place s p e)) ∙ sym (end_is s p e)

  lies : (p : ℕ) → is_card (card_at s p) ≡ true
      → (start_of (card_at s p) < end_of (card_at s p)) × (end_of (card_at s p) ≤ length s)
  unfolding card_at answer_at
  lies p e =
      let l = lie-at 0 (reading s).cards (length s) (reading s).ending p (sound s).lie (card-place s p e).0 in
      (l.1, l.2)

  follows : (i j : ℕ) → i < j → is_card (card_at s j) ≡ true → end_of (card_at s i) ≤ start_of (card_at s j)
  unfolding card_at answer_at
  follows i j h e =
      lie-behind 0 (reading s).cards (length s) (reading s).ending i j (sound s).lie h (card-place s j e).0

  -- the place after n calls
  abbrev after : ℕ → ℕ
  after n = iterate (λ _ place. (read_at s place).next) n 0

  goes_on : (p : ℕ) → p < length (reading s).cards → (read_at s p).next ≡ p + 1
  unfolding read_at
  goes_on p h = rw (card-before s p h) refl

  ended : (p : ℕ) → length (reading s).cards ≤ p → is_card (card_at s p) ≡ false
  unfolding card_at
  ended p h = ap is_card (past (reading s) p h) ∙ (sound s).ended.0

  late : (p : ℕ) → 14 ≤ p → is_card (card_at s p) ≡ false
  late p h = ended p (omega (arith, (sound s).few))

  stands : (n : ℕ) → after n ≡ min n (length (reading s).cards)
  unfolding iterate
  stands zero = omega arith
  stands (suc n) =
      let l = length (reading s).cards in
      elim (dec_le l n) [
        | yes h ↦ let e : after n ≡ l = omega (arith, stands n) in
            ap (λ (p : ℕ). (read_at s p).next) e ∙ kept l (ended l (omega arith)) ∙ omega arith
        | no h ↦ let e : after n ≡ n = omega (arith, stands n) in
            ap (λ (p : ℕ). (read_at s p).next) e ∙ goes_on n (omega arith) ∙ omega arith
      ]

  -- behind the last card all places are alike
  alike : (n : ℕ) → card_at s (min n (length (reading s).cards)) ≡ card_at s n
  unfolding card_at
  alike n =
      let l = length (reading s).cards in
      elim (dec_le l n) [
        | yes h ↦ past (reading s) (min n l) (omega arith) ∙ sym (past (reading s) n h)
        | no h ↦ let e : min n l ≡ n = omega arith in ap (answer_at (reading s)) e
      ]

  calls : (n : ℕ) → (read_at s (after n)).card ≡ card_at s n
  unfolding read_at
  calls n = ap (card_at s) (stands n) ∙ alike n

  accepted : (judged s).number ≡ 0 → (reading s).ending ≡ Done
  unfolding judged
  accepted e = (sound s).ended.1 e

  judging : (p : ℕ) → (p < (judged s).cards → is_card (card_at s p) ≡ true)
      × ((judged s).cards ≤ p → told_of (card_at s p) p ≡ told-ended (judged s) p)
  unfolding judged
  judging p = (
    card-before s p,
    λ h. end-told (card_at s p) p (ended p h) ∙ rw (end_is s p (ended p h)) refl,
  )

  pub demands : Demands s
  demands =
      record {
        given-again = λ p e. (kept p e, λ more. again p more e);
        within = lies;
        behind = follows;
        walked = calls;
        fifteen = late;
        judges = judging;
        whole = λ h e. whole s h (accepted e);
      }
