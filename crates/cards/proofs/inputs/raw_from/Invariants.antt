use mathlib.Core.Path.{◌≡◌}
use Prim.Native.Nat.{◌≤◌, ◌-◌}
use lib.ListN.{length}
use Rattle.cards.proofs.inputs.raw_from.Given as goal

abbrev pub invariant-loop-len : goal.invariant-loop-len
invariant-loop-len g l = (l.len ≤ length l.room) × (length l.room ≡ length l.initial.room)

abbrev pub decreases-loop-len : goal.decreases-loop-len
decreases-loop-len g l = length l.room - l.len
