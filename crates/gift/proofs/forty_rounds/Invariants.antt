use mathlib.Core.Bool.{cond}
use Prim.Native.Nat.{◌-◌}
use mathlib.Core.Path.{◌≡◌}
use lib.ListN.{get_or}
use Rattle.words.specs.Block.{value, halves}
use Rattle.gift.specs.Gift.{rounds}
use Rattle.gift.proofs.forty_rounds.Given as goal

abbrev pub invariant-loop-r : goal.invariant-loop-r
invariant-loop-r l =
    l.y ≡ halves (rounds l.back (λ i. value (get_or l.a.rounds (cond l.back (39 - i) i) (halves 0)))
    l.r (value l.initial.y))
