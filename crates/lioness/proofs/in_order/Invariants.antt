use Rattle.std.proofs.Common.{◌≡◌, drop}
use Rattle.lioness.specs.Steps.{run}
use Rattle.lioness.proofs.in_order.Given as goal

abbrev pub invariant-loop-step : goal.invariant-loop-step
invariant-loop-step l =
    run l.keys.key.now l.keys.iv.now (drop l.step-index l.step-items) l.block
    ≡ run l.keys.key.now l.keys.iv.now l.step-items l.initial.block
