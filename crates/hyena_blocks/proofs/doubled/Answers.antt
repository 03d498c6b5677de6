use mathlib.Core.Path.{sym}
use Rattle.words.proofs.Iterate.{iterate-none, iterate-next}
use Rattle.mode.specs.Hyena.{double}
use Rattle.hyena_blocks.proofs.doubled.Goals as goal

pub loop-init : goal.loop-init
loop-init c = sym (iterate-none (λ i. double) c.args.mask)

pub loop-preserved : goal.loop-preserved
loop-preserved c = iterate-next (λ i. double) c.loop.counter c.args.mask c.loop.invariant c.double_of-x.ensures
