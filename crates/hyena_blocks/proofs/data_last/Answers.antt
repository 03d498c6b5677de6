use Rattle.hyena_blocks.proofs.Steps.{data-last-is}
use Rattle.hyena_blocks.proofs.data_last.Goals as goal

pub returns : goal.returns
returns c = let a = c.args in
    data-last-is a.b a.k a.n a.d c.doubled-mask.ensures c.feedback.ensures
