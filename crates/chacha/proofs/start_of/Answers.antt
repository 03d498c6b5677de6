use Rattle.words.specs.Digits.{tab}
use Rattle.words.specs.Words.{words}
use Rattle.chacha.specs.ChaCha.{start_state}
use Rattle.chacha.proofs.start_of.Goals as goal

pub returns : goal.returns
unfolding start_state words tab
returns c = cc
