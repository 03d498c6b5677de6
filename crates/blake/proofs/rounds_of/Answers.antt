use Rattle.std.proofs.Common.{sym}
use Rattle.words.proofs.Iterate.{iterate-none, iterate-next}
use Rattle.blake.specs.Blake.{round}
use Rattle.blake.proofs.rounds_of.Goals as goal

pub loop-r-init : goal.loop-r-init
loop-r-init c = sym (iterate-none (round _) _)

pub loop-r-preserved : goal.loop-r-preserved
loop-r-preserved c = iterate-next (round _) c.loop-r.r _ c.loop-r.invariant c.round_of.ensures
