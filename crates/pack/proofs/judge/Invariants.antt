use Rattle.std.proofs.Common.{◌-◌, ◌≤◌, length}
use Rattle.pack.specs.Pack.{reading}
use Rattle.pack.proofs.judge.Given as goal

abbrev pub invariant-loop-answer : goal.invariant-loop-answer
invariant-loop-answer l = l.place ≤ length (reading l.pack).cards

abbrev pub decreases-loop-answer : goal.decreases-loop-answer
decreases-loop-answer l = length (reading l.pack).cards - l.place
