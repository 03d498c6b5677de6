-- The search for the first entry of a shuffle that offends.
use mathlib.Core.Path.{◌≡◌, refl, sym, ◌∙◌}
use mathlib.Core.Bool.{Bool, true, false, ◌||◌}
use mathlib.Core.List.{List}
use Prim.Native.Nat.{ℕ, zero, suc, ◌+◌, ◌-◌, ◌<◌, ◌≤◌}
use native.Mathlib.Numerals.{add-one}
use native.Mathlib.Omega.{arith}
use lib.Dec.{leb}
use lib.ListN.{length, get_or}
use borrow.Author.Tests.{le-leb, lt-leb, lt-ltb, le-ltb}
use Rattle.words.specs.Search.{place_of}
use Rattle.words.proofs.Search.{place-least}
use Rattle.pack.specs.Pack.{offends, first_from, first_bad}

module _ (f : ℕ → Bool) (i : ℕ) where
  first-none : (n : ℕ) → n ≡ 0 → first_from f i n ≡ i
  unfolding first_from
  first-none n e = rw e refl

  first-here : (n : ℕ) → 0 < n → f i ≡ true → first_from f i n ≡ i
  unfolding first_from
  first-here zero h e = absurd (omega arith)
  first-here (suc n) h e = rw e refl

  first_next : (n : ℕ) → 0 < n → f i ≡ false → first_from f i n ≡ first_from f (i + 1) (n - 1)
  unfolding first_from
  first_next zero h e = absurd (omega arith)
  first_next (suc n) h e = let k : suc n - 1 ≡ n = omega arith in rw (e, add-one, k) refl

-- ---- entry i

module _ (s : List ℕ) (i : ℕ) where
  pub large : length s ≤ get_or s i 0 → offends s i ≡ true
  unfolding offends
  large h = rw (le-leb _ _ h) refl

  pub again : (j : ℕ) → j < i → i < length s → get_or s j 0 ≡ get_or s i 0 → offends s i ≡ true
  unfolding offends
  again j h l e =
      let k : place_of (get_or s i 0) s < i = omega (arith, place-least (get_or s i 0) s j (omega arith) e) in
      rw (lt-ltb _ _ k) (or-true (leb (length s) (get_or s i 0)))
    where
      or-true : (t : Bool) → (t || true) ≡ true
      or-true true = refl
      or-true false = refl

  pub fine : get_or s i 0 < length s → i ≤ place_of (get_or s i 0) s → offends s i ≡ false
  unfolding offends
  fine h k = rw (lt-leb _ _ h, le-ltb _ _ k) refl

-- ---- the search, at entry i

pub bad-start : (s : List ℕ) → first_from (offends s) 0 (length s - 0) ≡ first_bad s
bad-start s = let k : length s - 0 ≡ length s = omega arith in rw k refl

module _ (s : List ℕ) (i : ℕ) (inv : first_from (offends s) i (length s - i) ≡ first_bad s) where
  pub bad-none : length s ≤ i → i ≡ first_bad s
  bad-none h = sym (first-none (offends s) i (length s - i) (omega arith)) ∙ inv

  pub bad-here : i < length s → offends s i ≡ true → i ≡ first_bad s
  bad-here h e = sym (first-here (offends s) i (length s - i) (omega arith) e) ∙ inv

  pub bad-next : i < length s → offends s i ≡ false
      → first_from (offends s) (i + 1) (length s - (i + 1)) ≡ first_bad s
  bad-next h e =
      let k : length s - i - 1 ≡ length s - (i + 1) = omega arith in
      rw k at (sym (first_next (offends s) i (length s - i) (omega arith) e) ∙ inv)
