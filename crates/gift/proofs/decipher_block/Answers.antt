use Rattle.gift.specs.Entry.{deciphers}
use Rattle.gift.proofs.decipher_block.Goals as goal

pub returns : goal.returns
unfolding deciphers
returns c = c.forty_rounds.ensures
