use Prim.Native.Nat.{◌*◌, ◌^◌}
use mathlib.Core.Path.{◌≡◌}
use Rattle.words.specs.Block.{value, halves}
use Rattle.words.specs.Digits.{xsum}
use Rattle.gift.specs.Gift.{nibble, sbox}
use Rattle.gift.proofs.sub_cells.Given as goal

abbrev pub invariant-loop-j : goal.invariant-loop-j
invariant-loop-j l = l.acc ≡ halves (xsum (λ k. sbox l.back (nibble k (value l.x)) * 16 ^ k) l.j)
