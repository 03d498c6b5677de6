use Rattle.hyena_blocks.specs.Steps.{enciphers}
use Rattle.hyena_blocks.proofs.keyed.block.Goals as goal

pub returns : goal.returns
unfolding enciphers
returns c = c.encipher_block.ensures
