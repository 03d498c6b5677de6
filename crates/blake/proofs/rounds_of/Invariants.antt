use Rattle.std.proofs.Common.{◌≡◌}
use Rattle.words.specs.Iterate.{iterate}
use Rattle.blake.specs.Blake.{round}
use Rattle.blake.proofs.rounds_of.Given as goal

abbrev pub invariant-loop-r : goal.invariant-loop-r
invariant-loop-r l = l.v ≡ iterate (round l.m) l.r l.initial.v
