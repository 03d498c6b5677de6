-- The part that is handed back: it lies within its book, and it is 16 bytes long exactly when the number is 0.
use mathlib.Core.Path.{◌≡◌, refl, ap, subst⁻¹}
use mathlib.Core.Logic.{◌↔◌}
use mathlib.Core.Bool.{Bool, true, false, cond, ◌||◌, and-eq-true_iff}
use mathlib.Core.List.{List, [], ◌++◌}
use Prim.Native.Nat.{ℕ, ◌+◌, ◌-◌, ◌*◌, ◌≤◌}
use native.Mathlib.Nat.{add-zero, add_comm, add-sub_cancel_left}
use native.Mathlib.Decide.{ℕ_discrete}
use native.Mathlib.Omega.{arith}
use borrow.Author.Tests.{eqb-true, eq-eqb, ne_eqb, ltb-true, not-false}
use lib.Dec.{eqb}
use lib.ListN.{length, take, drop}
use Rattle.words.specs.Lent.{Lent, within}
use Rattle.answers.specs.Answers.{Row, Answer, answered}
use Rattle.words.proofs.Lists.{length_part}
use Rattle.answers.proofs.Answers.{Clear, answer-has}
use Rattle.answers.proofs.Answers.{refused-number}
use Rattle.answers.specs.declared.Refusal.{Refusal}
use Rattle.answers.specs.Told.{number_of_refusal}
use Rattle.books.specs.Books.{count, key_place, rising, classes, well_formed, entry, holds}
use Rattle.books.specs.Entry.{badly_formed, no_entry, Place, nowhere, placed, finding, Finding, handed_back}

-- a key that a well-formed book holds lies within it
key_fits : (c : ℕ) (book : List ℕ) → well_formed book ≡ true → holds c book ≡ true
    → key_place (entry c book) + 16 ≤ length book
unfolding well_formed
key_fits c book w h =
    let l : length book ≡ 2 + 18 * count book = eqb-true (length book) (2 + 18 * count book)
    ((and-eq-true_iff (eqb (length book) (2 + 18 * count book)) (rising (classes book))).0 w).0 in
    omega (arith, l, ltb-true (entry c book) (count book) h)

-- the part that an answer speaks of
module _ (thisTerm lastTerm : Lent) where
  abbrev book_of : Place → Lent
  book_of p = cond (eqb p.book 0) thisTerm lastTerm

  abbrev length_of : ℕ → ℕ
  length_of n = cond (eqb n 0) 16 0

  -- it lies within its book
  abbrev Fits : Answer Place → Type 0
  Fits a = a.outcome.offset + length_of a.number ≤ length (book_of a.outcome).bytes

module _ (thisTerm lastTerm : Lent) (c : ℕ) where
  abbrev found : Answer Place
  found = finding thisTerm.bytes lastTerm.bytes c

  abbrev refusals : List Row
  refusals = badly_formed thisTerm.bytes lastTerm.bytes ++ no_entry thisTerm.bytes lastTerm.bytes c

  placed-fits : Clear refusals → Fits thisTerm lastTerm (answered 0 (placed thisTerm.bytes lastTerm.bytes c))
  placed-fits (this-formed, (last-formed, (held, none))) =
      by (holds c thisTerm.bytes) (holds c lastTerm.bytes) (not-false _ held)
      (key_fits c thisTerm.bytes (not-false _ this-formed))
      (key_fits c lastTerm.bytes (not-false _ last-formed))
    where
      by : (t u : Bool) → t || u ≡ true → (t ≡ true → key_place (entry c thisTerm.bytes) + 16
          ≤ length thisTerm.bytes) → (u ≡ true
          → key_place (entry c lastTerm.bytes) + 16 ≤ length lastTerm.bytes)
          → Fits thisTerm lastTerm (answered 0 (cond t (record
          { book = 0; offset = key_place (entry c thisTerm.bytes) })
          (record { book = 1; offset = key_place (entry c lastTerm.bytes) })))
      by true u e f g = f refl
      by false u e f g = g e

  pub answer-fits : Fits thisTerm lastTerm found
  unfolding finding
  answer-fits =
      answer-has (placed thisTerm.bytes lastTerm.bytes c) nowhere refusals (Fits thisTerm lastTerm) tt placed-fits
      (λ n z. rw (ne_eqb n 0 z) (omega arith))

  -- where a key is found, in the book s that it lies in
  module _ {b o : ℕ} (e : Finding 0 thisTerm.bytes lastTerm.bytes c b o) {s : Lent}
      (es : s ≡ cond (eqb b 0) thisTerm lastTerm) where
    pub part-fits : o + 16 ≤ length s.bytes
    part-fits = rw es (subst⁻¹ (Fits thisTerm lastTerm) e answer-fits)

    pub part-is : record { start = (s.start.0, o + s.start.1); bytes = take (o + 16 - o) (drop o s.bytes) }
        ≡ handed_back thisTerm lastTerm c
    unfolding handed_back
    part-is =
        rw (add_comm o s.start.1, add-sub_cancel_left o 16, es)
        (ap (λ (a : Answer Place). within (book_of thisTerm lastTerm a.outcome) a.outcome.offset
        (length_of thisTerm lastTerm a.number)) e)

  -- where it is refused, an empty part at the start of this term's
  pub part-none : (why : Refusal) → Finding (number_of_refusal why) thisTerm.bytes lastTerm.bytes c 0 0
      → record { start = thisTerm.start; bytes = take 0 thisTerm.bytes } ≡ handed_back thisTerm lastTerm c
  unfolding handed_back
  part-none why e =
      let none : length_of thisTerm lastTerm (number_of_refusal why) ≡ 0 =
      rw (ne_eqb (number_of_refusal why) 0 (refused-number why)) in
      rw (none, add-zero) at
      (ap (λ (a : Answer Place). within (book_of thisTerm lastTerm a.outcome) a.outcome.offset
      (length_of thisTerm lastTerm a.number)) e)

  -- ---- "the part is 16 bytes long exactly when the number is 0."

  pub part-found : found.number ≡ 0 → length (handed_back thisTerm lastTerm c).bytes ≡ 16
  unfolding handed_back
  part-found h =
      let l : found.outcome.offset + 16 ≤ length (book_of thisTerm lastTerm found.outcome).bytes =
      rw (eq-eqb found.number 0 h) at answer-fits in
      rw (eq-eqb found.number 0 h) (length_part (book_of thisTerm lastTerm found.outcome).bytes
      found.outcome.offset 16 (omega (arith, l)))

  pub part-refused : (found.number ≡ 0 → ⊥) → (handed_back thisTerm lastTerm c).bytes ≡ []
  unfolding handed_back
  part-refused h = rw (ne_eqb found.number 0 h)

  pub part-exactly : (length (handed_back thisTerm lastTerm c).bytes ≡ 16) ↔ (found.number ≡ 0)
  part-exactly = (
    λ l. elim (ℕ_discrete found.number 0)
        [ yes e ↦ e | no n ↦ absurd (omega (arith, l, ap length (part-refused n))) ],
    part-found,
  )
