-- The definitions computed on words that are numbers or not.
use mathlib.Core.Path.{◌≡◌, refl}
use mathlib.Core.List.{[], ◌∷◌}
use Rattle.std.specs.Prelude.{Some, None}
use Rattle.decimal.specs.Decimal.{digits, behind, from, reading}

-- "065535" is 65535; nothing, "1x" and 2^64 are no numbers
pub decimals : (reading (48 ∷ 54 ∷ 53 ∷ 53 ∷ 51 ∷ 53 ∷ []) ≡ Some 65535)
    × (reading [] ≡ None) × (reading (49 ∷ 120 ∷ []) ≡ None)
    × (reading (49 ∷ 56 ∷ 52 ∷ 52 ∷ 54 ∷ 55 ∷ 52 ∷ 52 ∷ 48 ∷ 55 ∷ 51 ∷ 55 ∷ 48 ∷ 57 ∷ 53 ∷ 53 ∷ 49 ∷ 54 ∷ 49 ∷ 54 ∷ [])
    ≡ None)
unfolding reading from digits behind
decimals = (refl, refl, refl, refl)
