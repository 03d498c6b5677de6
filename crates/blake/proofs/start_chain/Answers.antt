use Rattle.std.proofs.Common.{refl}
use Rattle.blake.specs.Blake.{iv, parameter, start_chain}
use Rattle.blake.proofs.start_chain.Goals as goal

pub returns : goal.returns
unfolding iv start_chain parameter
returns c = refl
