use Prim.Native.Nat.{◌+◌, ◌*◌, ◌^◌}
use mathlib.Core.Path.{refl}
use Rattle.words.specs.Block.{halves}
use Rattle.words.specs.Digits.{xsum}
use Rattle.words.proofs.Blocks.{sum-next}
use Rattle.gift.specs.Gift.{bit, spread}
use Rattle.gift.proofs.spread_of.Goals as goal

pub loop-i-init : goal.loop-i-init
unfolding spread xsum halves
loop-i-init c = c.from-acc.ensures

pub loop-i-preserved : goal.loop-i-preserved
unfolding spread
loop-i-preserved c =
    let l = c.loop-i in
    let a = c.args in
    sum-next (λ k. bit k a.u * 2 ^ (4 * k + a.o)) l.i l.invariant c.put-acc.ensures refl
