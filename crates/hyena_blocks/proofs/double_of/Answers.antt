use native.Mathlib.Omega.{arith}
use Rattle.hyena_blocks.proofs.Steps.{double-is}
use Rattle.hyena_blocks.proofs.double_of.Goals as goal

pub returns : goal.returns
returns c = double-is c.args.x (omega arith)
