use Rattle.hyena_blocks.proofs.Steps.{data-block-is}
use Rattle.hyena_blocks.specs.Steps.{enciphers}
use Rattle.hyena_blocks.proofs.data_block.Goals as goal

pub returns : goal.returns
returns c =
    let a = c.args in
    data-block-is (enciphers a.e) a.b a.d c.feedback-x.ensures c.block.ensures
    c.double_of.ensures
