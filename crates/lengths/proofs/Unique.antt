-- Each public function's promise allows one result.
use mathlib.Core.Path.{◌≡◌}
use mathlib.Core.Bool.{Bool}
use mathlib.Core.List.{List}
use Prim.Native.Nat.{ℕ}
use lib.Dec.{eqb}
use Rattle.words.proofs.Unique.{same}
use Rattle.lengths.specs.Lengths.{total, any_above}

pub add-up-unique : (lengths : List ℕ) (whole : ℕ) {a b : Bool} → a ≡ eqb (total lengths) whole
    → b ≡ eqb (total lengths) whole → a ≡ b
add-up-unique lengths whole = same

pub any-above-unique : (lengths : List ℕ) (most : ℕ) {a b : Bool} → a ≡ any_above most lengths
    → b ≡ any_above most lengths → a ≡ b
any-above-unique lengths most = same
