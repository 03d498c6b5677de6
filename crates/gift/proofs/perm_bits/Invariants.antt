use mathlib.Core.Bool.{cond}
use Prim.Native.Nat.{◌*◌, ◌^◌}
use mathlib.Core.Path.{◌≡◌}
use Rattle.words.specs.Block.{value, halves}
use Rattle.words.specs.Digits.{xsum}
use Rattle.gift.specs.Gift.{bit, place}
use Rattle.gift.proofs.perm_bits.Given as goal

abbrev pub invariant-loop-i : goal.invariant-loop-i
invariant-loop-i l =
    l.acc ≡ halves
    (xsum (λ k. bit (cond l.back (place k) k) (value l.x) * 2 ^ cond l.back k (place k)) l.i)
