use mathlib.Core.Path.{ap}
use Rattle.hyena_blocks.specs.Steps.{keyed}
use Rattle.hyena_blocks.proofs.keyed.keyed_of.Goals as goal

pub returns : goal.returns
unfolding keyed
returns c = ap (λ a. record { keys = a }) c.round_keys_of.ensures
