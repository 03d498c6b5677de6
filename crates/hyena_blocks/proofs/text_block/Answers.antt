use Rattle.hyena_blocks.proofs.Steps.{text-block-is}
use Rattle.hyena_blocks.specs.Steps.{enciphers}
use Rattle.hyena_blocks.proofs.text_block.Goals as goal

pub returns : goal.returns
returns c =
    let a = c.args in
    text-block-is (enciphers a.e) a.opening a.t a.k a.n a.d
    c.doubled-mask.ensures c.block-y.ensures c.feedback.ensures
    c.bitxor.ensures
