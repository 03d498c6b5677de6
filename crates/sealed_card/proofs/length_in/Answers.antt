use Rattle.sealed_card.specs.SealedCard.{length_in}
use Rattle.sealed_card.proofs.length_in.Goals as goal

pub returns : goal.returns
unfolding length_in
returns c = c.two.ensures
