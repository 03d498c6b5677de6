use Rattle.words.specs.Block.{loaded_pad}
use Rattle.words.proofs.load_pad.Goals as goal

pub returns : goal.returns
unfolding loaded_pad
returns c = c.gathered.ensures
