use mathlib.Core.Path.{◌≡◌}
use Rattle.mode.specs.Hyena.{doubles}
use Rattle.hyena_blocks.proofs.doubled.Given as goal

abbrev pub invariant-loop : goal.invariant-loop
invariant-loop l = l.x ≡ doubles l.counter l.mask
