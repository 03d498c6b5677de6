use Rattle.words.specs.Block.{loaded}
use Rattle.words.proofs.load.Goals as goal

pub returns : goal.returns
unfolding loaded
returns c = c.gathered.ensures
