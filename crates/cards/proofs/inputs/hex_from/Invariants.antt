use mathlib.Core.Path.{◌≡◌}
use lib.ListN.{length}
use Rattle.cards.proofs.inputs.hex_from.Given as goal

abbrev pub invariant-loop-left : goal.invariant-loop-left
invariant-loop-left g l = (length l.room ≡ length l.initial.room) × (65536 ≡ length l.chunk)

abbrev pub decreases-loop-left : goal.decreases-loop-left
decreases-loop-left g l = l.left
