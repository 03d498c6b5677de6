-- The entry that is found is the one for the class, and a well-formed book has no other.
use mathlib.Core.Path.{◌≡◌, sym, ap, subst, ◌∙◌}
use mathlib.Core.Logic.{⊎_elim}
use mathlib.Core.Bool.{true, and-eq-true_iff}
use mathlib.Core.List.{List}
use Prim.Native.Nat.{ℕ, zero, suc, ◌+◌, ◌*◌, ◌<◌}
use native.Mathlib.Nat.{add-zero, add-suc, suc-add, zero-add, lt_trans, ne_of_lt, eq-or-lt_of_le, not-suc-le-zero}
use native.Mathlib.Nat.{le_of_suc-le-suc, zero-lt-suc}
use native.Mathlib.Decide.{ℕ_discrete}
use native.Mathlib.Omega.{arith}
use borrow.Author.Tests.{ltb-true, eq-eqb, ne_eqb, lt-ltb}
use lib.Dec.{eqb, ltb}
use lib.ListN.{length}
use Rattle.words.specs.Digits.{tab}
use Rattle.words.specs.Search.{place_of}
use Rattle.books.specs.Books.{count, class, classes, rising, well_formed, entry, holds}

module _ (f : ℕ → ℕ) (c : ℕ) where
  -- what stands at the place found is c
  at_place : (i n : ℕ) → place_of c (tab f i n) < n → f (i + place_of c (tab f i n)) ≡ c
  unfolding place_of tab
  at_place i zero h = absurd (not-suc-le-zero h)
  at_place i (suc n) h =
      elim (ℕ_discrete (f i) c) [
        | yes e ↦ rw (eq-eqb (f i) c e, add-zero) e
        | no k ↦
            let p = place_of c (tab f (suc i) n) in
            let l : p < n = le_of_suc-le-suc (rw (ne_eqb (f i) c k) at h) in
            rw (ne_eqb (f i) c k, add-suc, ← suc-add i p) (at_place (suc i) n l)
      ]

  -- the first that is c is found
  place-first : (i n k : ℕ) → k < n → f (i + k) ≡ c → ((j : ℕ) → j < k → f (i + j) ≡ c → ⊥) → place_of c (tab f i n) ≡ k
  unfolding place_of tab
  place-first i zero k h e none = absurd (not-suc-le-zero h)
  place-first i (suc n) zero h e none = rw (eq-eqb (f i) c (sym (ap f (add-zero i)) ∙ e))
  place-first i (suc n) (suc k) h e none =
      rw (ne_eqb (f i) c (λ q. none 0 (zero-lt-suc k) (ap f (add-zero i) ∙ q)))
      (ap suc (place-first (suc i) n k (le_of_suc-le-suc h) (ap f (suc-add i k ∙ sym (add-suc i k)) ∙ e)
      (λ j l q. none (suc j) (omega arith) (ap f (add-suc i j ∙ sym (suc-add i j)) ∙ q))))

-- numbers that rise, one step and many
module _ (f : ℕ → ℕ) where
  next-rise : (i n k : ℕ) → rising (tab f i n) ≡ true → suc k < n → f (i + k) < f (i + suc k)
  unfolding rising tab
  next-rise i zero k e h = absurd (not-suc-le-zero h)
  next-rise i (suc zero) k e h = absurd (omega arith)
  next-rise i (suc (suc n)) zero e h =
      let l = ltb-true (f i) (f (suc i)) ((and-eq-true_iff (ltb (f i) (f (suc i))) (rising (tab f (suc i) (suc n)))).0
      e).0 in
      rw (add-suc, add-zero) l
  next-rise i (suc (suc n)) (suc k) e h =
      let l = next-rise (suc i) (suc n) k ((and-eq-true_iff (ltb (f i) (f (suc i))) (rising (tab f (suc i) (suc n)))).0
      e).1 (le_of_suc-le-suc h) in
      rw (add-suc i (suc k), add-suc i k, ← suc-add i k) (rw (add-suc (suc i) k) at l)

  all-rise : (n : ℕ) → rising (tab f 0 n) ≡ true → (k j : ℕ) → j < k → k < n → f j < f k
  all-rise n e zero j h l = absurd (not-suc-le-zero h)
  all-rise n e (suc k) j h l =
      let s : f k < f (suc k) = rw (zero-add, zero-add) at (next-rise 0 n k e l) in
      ⊎_elim (λ (q : j ≡ k). subst (λ (x : ℕ). f x < f (suc k)) (sym q) s)
      (λ (q : j < k). lt_trans (all-rise n e k j q (omega arith)) s) (eq-or-lt_of_le (le_of_suc-le-suc h))

module _ (c : ℕ) (book : List ℕ) where
  -- the key that is found is that of an entry with the class
  pub entry-class : holds c book ≡ true → class book (entry c book) ≡ c
  entry-class h =
      sym (ap (class book) (zero-add (entry c book)))
      ∙ at_place (class book) c 0 (count book) (ltb-true (entry c book) (count book) h)

  -- each entry with the class is the one that is found
  pub entry_found : well_formed book ≡ true → (i : ℕ) → i < count book → class book i ≡ c
      → (entry c book ≡ i) × (holds c book ≡ true)
  unfolding well_formed
  entry_found w i h e =
      let r = ((and-eq-true_iff (eqb (length book) (2 + 18 * count book)) (rising (classes book))).0 w).1 in
      let p : entry c book ≡ i =
      place-first (class book) c 0 (count book) i h (ap (class book) (zero-add i) ∙ e)
      (λ j l q. ne_of_lt (all-rise (class book) (count book) r i j l h)
      (sym (ap (class book) (zero-add j)) ∙ q ∙ sym e)) in
      (p, lt-ltb (entry c book) (count book) (omega (arith, p)))
