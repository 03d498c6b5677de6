use Rattle.gift.specs.Entry.{enciphers}
use Rattle.gift.proofs.encipher_block.Goals as goal

pub returns : goal.returns
unfolding enciphers
returns c = c.forty_rounds.ensures
