-- The definitions computed, at the first count and at the last ones.
use mathlib.Core.Path.{◌≡◌, refl}
use mathlib.Core.List.{List, [], ◌∷◌, map}
use Prim.Native.Nat.{◌-◌, ◌^◌}
use lib.ListN.{replicate}
use Rattle.words.specs.Bytes.{bytes}
use Rattle.answers.specs.Answers.{Answer, answered}
use Rattle.drawer.specs.Drawer.{for_nonce, for_iv, Handed, started, nonce, drawing}

-- "number, then count, both little-endian"; zero bytes with number 0 are a number like any other; the last count that
-- is handed out is 2^64 - 2, and at 2^64 - 1 a draw answers zero bytes with 9
pub draws : ◌≡◌ {A = List (Answer Handed)}
    (map (drawing for_nonce) (started 0x04030201 0x0C0B0A0908070605 ∷ started 0 0 ∷ started 1 (2 ^ 64 - 2)
    ∷ started 1 (2 ^ 64 - 1) ∷ []))
    (
    answered 0 (record {
      bytes = 1 ∷ 2 ∷ 3 ∷ 4 ∷ 5 ∷ 6 ∷ 7 ∷ 8 ∷ 9 ∷ 10 ∷ 11 ∷ 12 ∷ [];
      next = started 0x04030201 0x0C0B0A0908070606;
    })
    ∷ answered 0 (record { bytes = replicate 12 0; next = started 0 1 })
    ∷ answered 0 (record {
      bytes = 1 ∷ 0 ∷ 0 ∷ 0 ∷ 254 ∷ 255 ∷ 255 ∷ 255 ∷ 255 ∷ 255 ∷ 255 ∷ 255 ∷ [];
      next = started 1 (2 ^ 64 - 1);
    })
    ∷ answered 9 (record { bytes = replicate 12 0; next = started 1 (2 ^ 64 - 1) })
    ∷ []
    )
unfolding nonce bytes drawing
draws = refl

-- a refused iv answers 48 zero bytes
pub iv-refused : drawing for_iv (started 1 (2 ^ 64 - 1))
    ≡ answered 9 (record { bytes = replicate 48 0; next = started 1 (2 ^ 64 - 1) })
unfolding drawing nonce bytes
iv-refused = refl
