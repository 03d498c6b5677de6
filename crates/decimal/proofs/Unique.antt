-- The public function's promise allows one result.
use mathlib.Core.Path.{◌≡◌}
use mathlib.Core.List.{List}
use Prim.Native.Nat.{ℕ}
use Rattle.std.specs.Prelude.{Option}
use Rattle.words.proofs.Unique.{same}
use Rattle.decimal.specs.Decimal.{reading}

pub number-unique : (word : List ℕ) {a b : Option ℕ} → a ≡ reading word → b ≡ reading word → a ≡ b
number-unique word = same
