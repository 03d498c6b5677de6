use Rattle.lioness.specs.Lioness.{steps}
use Rattle.lioness.specs.Entry.{ordered}
use Rattle.lioness.proofs.encipher.Goals as goal

pub returns : goal.returns
unfolding ordered steps
returns c = c.in_order.ensures
