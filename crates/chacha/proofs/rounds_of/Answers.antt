use Rattle.std.proofs.Common.{sym}
use Rattle.words.proofs.Iterate.{iterate-none, iterate-next}
use Rattle.chacha.specs.ChaCha.{double_round}
use Rattle.chacha.proofs.rounds_of.Goals as goal

pub loop-init : goal.loop-init
loop-init c = sym (iterate-none (λ j. double_round) _)

pub loop-preserved : goal.loop-preserved
loop-preserved c = iterate-next (λ j. double_round) c.loop.counter _ c.loop.invariant c.double_round.ensures
