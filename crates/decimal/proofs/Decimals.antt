-- What the code makes of a word, digit by digit.
use mathlib.Core.Path.{◌≡◌, refl, sym, ap, ◌∙◌}
use mathlib.Core.Bool.{Bool, true, false, cond, ◌&&◌}
use mathlib.Core.List.{List, [], ◌∷◌}
use Prim.Native.Nat.{ℕ, suc, ◌+◌, ◌-◌, ◌*◌, ◌^◌, ◌≤◌, ◌<◌}
use native.Mathlib.Nat.{le_trans, le_refl}
use native.Mathlib.Numerals.{add-one}
use native.Mathlib.Omega.{arith}
use lib.Dec.{ltb}
use lib.ListN.{length, drop, get_or, drop_of_length-le}
use lib.Seq.{drop-cons}
use borrow.Author.Tests.{lt-ltb, le-ltb}
use Rattle.std.specs.Prelude.{Some, None}
use Rattle.decimal.specs.Decimal.{digits, behind, from, reading, digit}

and-false : (t : Bool) → t && false ≡ false
and-false true = refl
and-false false = refl

behind-least : (v : ℕ) (s : List ℕ) → v ≤ behind v s
unfolding behind
behind-least v [] = le_refl v
behind-least v (b ∷ s) = le_trans (omega arith) (behind-least (v * 10 + (b - 48)) s)

-- a number below 2^64, with nothing behind it, is itself
from_nothing : (v : ℕ) → v < 2 ^ 64 → from (Some v) [] ≡ Some v
unfolding from digits behind
from_nothing v l = rw (lt-ltb _ _ l) refl

-- a digit, and its value
pub is_digit : (b w : ℕ) → digit b ≡ Some w → (ltb 47 b && ltb b 58 ≡ true) × (b - 48 ≡ w)
unfolding digit
is_digit b w = by (ltb 47 b && ltb b 58)
  where
    by : (t : Bool) → cond t (Some (b - 48)) None ≡ Some w → (t ≡ true) × (b - 48 ≡ w)
    by true e = (refl, cc)
    by false e = absurd cc

module _ (v b : ℕ) (s : List ℕ) where
  pub no_digit : digit b ≡ None → from (Some v) (b ∷ s) ≡ None
  unfolding from digits digit
  no_digit e = by (ltb 47 b && ltb b 58) (digits s) (ltb (behind v (b ∷ s)) (2 ^ 64)) e
    where
      by : (t u l : Bool) → cond t (Some (b - 48)) None ≡ None
          → cond (t && u && l) (Some (behind v (b ∷ s))) None ≡ None
      by true u l e = absurd cc
      by false u l e = refl

  pub too_large : 2 ^ 64 ≤ v * 10 + (b - 48) → from (Some v) (b ∷ s) ≡ None
  unfolding from behind
  too_large h =
      rw (
        le-ltb (behind (v * 10 + (b - 48)) s) (2 ^ 64) (le_trans h (behind-least (v * 10 + (b - 48)) s)),
        and-false (digits (b ∷ s)),
      )

  pub one_more : {w : ℕ} → digit b ≡ Some w → from (Some (v * 10 + w)) s ≡ from (Some v) (b ∷ s)
  unfolding from digits behind
  one_more e = let d = is_digit b _ e in rw (d.0, sym d.1) refl

-- the start of a word that is not empty
pub start : (word : List ℕ) → (length word ≡ 0 → ⊥) → from (Some 0) word ≡ reading word
unfolding reading
start [] h = absurd (h refl)
start (b ∷ s) h = rw (lt-ltb 0 (suc (length s)) (omega arith)) refl

pub nothing : (word : List ℕ) → length word ≡ 0 → None ≡ reading word
unfolding reading from
nothing [] h = refl
nothing (b ∷ s) h = absurd (omega (arith, h))

-- what is behind the place that the loop has come to
module _ (word : List ℕ) (i v : ℕ) (inv : from (Some v) (drop i word) ≡ reading word) where
  -- at a byte, and after the last one
  pub at_byte : i < length word → from (Some v) (get_or word i 0 ∷ drop (i + 1) word) ≡ reading word
  at_byte h = rw add-one (ap (from (Some v)) (sym (drop-cons word i 0 h)) ∙ inv)

  pub at_end : length word ≤ i → v < 2 ^ 64 → Some v ≡ reading word
  at_end h l = sym (from_nothing v l) ∙ ap (from (Some v)) (sym (drop_of_length-le word {i = i} h)) ∙ inv
