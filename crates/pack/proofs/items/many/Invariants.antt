use Rattle.std.proofs.Common.{◌-◌}
use Rattle.pack.proofs.Steps.{Passing}
use Rattle.pack.proofs.items.many.Given as goal

abbrev pub invariant-loop-i : goal.invariant-loop-i
invariant-loop-i l = Passing l.pack l.shape l.count l.fn.at l.fn.place (l.count - l.i) l.at l.place
