-- A book's entries as the library goes over them: in what order their classes stand, and the first that has a class.
use mathlib.Core.Path.{◌≡◌, refl, ap, subst, ◌∙◌}
use mathlib.Core.Bool.{Bool, true, false, cond, ◌&&◌}
use mathlib.Core.List.{List}
use Prim.Native.Nat.{ℕ, zero, suc, ◌+◌, ◌-◌, ◌*◌}
use native.Mathlib.Nat.{add-zero, zero-add}
use native.Mathlib.Numerals.{add-one, sub-one}
use native.Mathlib.Omega.{arith}
use borrow.Author.Tests.{eq-eqb, ne_eqb, lt-ltb}
use Rattle.std.proofs.lemmas.Bool.Decides.{nat_tests}
use lib.Dec.{eqb, ltb}
use lib.ListN.{length}
use Rattle.std.specs.Prelude.{Option, Some, None}
use Rattle.std.specs.List.{list_all, find, range_with_len}
use Rattle.std.specs.Option.{option_map}
use Rattle.words.specs.Digits.{tab}
use Rattle.words.specs.Search.{place_of}
use Rattle.words.proofs.Tests.{cond_of}
use Rattle.books.specs.Books.{count, class, rising, well_formed, key_place, entry, holds}

module _ (f : ℕ → ℕ) where
  -- numbers rise where each is above the one before
  pub rises : (i n : ℕ) → list_all (λ k. ltb (f (k - 1)) (f k)) (range_with_len (i + 1) n) ≡ rising (tab f i (n + 1))
  unfolding rising tab
  rises i zero = refl
  rises i (suc n) =
      let e : i + 1 - 1 ≡ i = omega arith in
      rw (e, add-one i, add-one (suc n))
      (ap (λ (b : Bool). ltb (f i) (f (suc i)) && b) (rw (add-one n) at (rises (suc i) n)))

  -- the first that is c
  pub first-of : (c i n : ℕ) → let p = place_of c (tab f i n) in
      find (λ k. eqb (f k) c) (range_with_len i n) ≡ cond (ltb p n) (Some (i + p)) None
  unfolding place_of tab
  first-of c i zero = refl
  first-of c i (suc n) =
      by (eqb (f i) c) (place_of c (tab f (suc i) n))
      (subst (λ (k : ℕ). FoundFrom (place_of c (tab f k n))) (add-one i) (first-of c (i + 1) n))
    where
      FoundFrom : ℕ → Type 0
      FoundFrom p = find (λ k. eqb (f k) c) (range_with_len (i + 1) n) ≡ cond (ltb p n) (Some (i + 1 + p)) None

      by : (t : Bool) (p : ℕ) → FoundFrom p → cond t (Some i) (find (λ k. eqb (f k) c) (range_with_len (i + 1) n))
          ≡ cond (ltb (cond t 0 (suc p)) (suc n)) (Some (i + cond t 0 (suc p))) None
      by true p e = let m : ltb 0 (suc n) ≡ true = lt-ltb 0 (suc n) (omega arith) in rw (m, add-zero i)
      by false p e =
          let m : ltb (suc p) (suc n) ≡ ltb p n = grind (arith, nat_tests) in
          let l : i + suc p ≡ i + 1 + p = omega arith in
          rw (m, l) e

-- ---- a book that is judged

module _ (book : List ℕ) (n m : ℕ) (en : n ≡ count book) (em : m ≡ n) where
  pub other_length : (length book ≡ 2 + 18 * m → ⊥) → eqb (length book) (2 + 18 * m) ≡ well_formed book
  unfolding well_formed
  other_length h =
      rw (ne_eqb (length book) (2 + 18 * m) h, ne_eqb (length book) (2 + 18 * count book) (rw (em, en) at h))

  pub rising-is : {t : Bool} → length book ≡ 2 + 18 * m
      → t ≡ list_all (λ k. ltb (class book (k - 1)) (class book k)) (range_with_len 1 (n - 1)) → t ≡ well_formed book
  unfolding well_formed rising tab
  rising-is h e =
      e ∙ all_rise n
      ∙ rw (eq-eqb (length book) (2 + 18 * count book) (rw (em, en) at h), en)
    where
      all_rise : (k : ℕ) → list_all (λ k. ltb (class book (k - 1)) (class book k)) (range_with_len 1 (k - 1))
          ≡ rising (tab (class book) 0 k)
      all_rise zero = refl
      all_rise (suc k) = rw sub-one (rw (add-one k) at (rises (class book) 0 k))

-- ---- the key that is found

-- it starts behind the class number of its entry
pub key-is : (c : ℕ) (book : List ℕ) (n : ℕ) (i : Option ℕ) (key : Option ℕ) → n ≡ count book
    → option_map (λ k. k) i ≡ find (λ k. eqb (class book k) c) (range_with_len 0 n) → key ≡ option_map key_place i
    → key ≡ cond (holds c book) (Some (key_place (entry c book))) None
key-is c book n i key en ei ek =
    ek ∙ ap (option_map key_place) (same i ∙ ei ∙ first-of (class book) c 0 n ∙ rw (en, zero-add))
    ∙ cond_of (option_map key_place) (holds c book) (Some (entry c book)) None
  where
    same : (o : Option ℕ) → o ≡ option_map (λ k. k) o
    same None = refl
    same (Some x) = refl
