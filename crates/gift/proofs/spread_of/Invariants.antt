use mathlib.Core.Path.{◌≡◌}
use Rattle.words.specs.Block.{halves}
use Rattle.gift.specs.Gift.{spread}
use Rattle.gift.proofs.spread_of.Given as goal

abbrev pub invariant-loop-i : goal.invariant-loop-i
invariant-loop-i l = l.acc ≡ halves (spread l.o l.i l.u)
