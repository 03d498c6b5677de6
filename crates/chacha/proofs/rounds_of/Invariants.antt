use Rattle.std.proofs.Common.{◌≡◌}
use Rattle.words.specs.Iterate.{iterate}
use Rattle.chacha.specs.ChaCha.{double_round}
use Rattle.chacha.proofs.rounds_of.Given as goal

abbrev pub invariant-loop : goal.invariant-loop
invariant-loop l = l.t ≡ iterate (λ j. double_round) l.counter l.initial.t
