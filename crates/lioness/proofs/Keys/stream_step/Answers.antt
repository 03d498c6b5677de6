use Rattle.std.proofs.Common.{length, ap, sym, ◌∙◌, arith}
use Rattle.lioness.specs.Steps.{number_of_step}
use Rattle.lioness.proofs.Steps.{stream-key-is, stream-step-is}
use Rattle.lioness.proofs.Keys.stream_step.Goals as goal

pub returns : goal.returns
returns c =
    let a = c.args in
    let j = number_of_step a.step in
    let key = a.self.now.key.now in
    let iv = a.self.now.iv.now in
    let k = c.key_part.ensures in
    let i = c.iv_part.ensures in
    let hk = ap length (sym k.part) ∙ k.len in
    let hi = ap length (sym i.part) ∙ i.len in
    stream-step-is j key iv hk hi a.block.now c.requires.0 c.requires.1 _ _ _ _ _
    (stream-key-is j key iv hk hi a.block.now _ _ _ (omega arith) k.part c.add.ensures c.add-2.ensures) i.part
    c.stream.ensures
