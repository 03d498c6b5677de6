use native.Mathlib.Omega.{arith}
use lib.ListN.{take}
use Rattle.words.specs.Bytes.{Bytes}
use Rattle.mode.specs.Hyena.{start_block}
use Rattle.hyena_blocks.specs.Steps.{enciphers}
use Rattle.hyena_blocks.proofs.Steps.{start_is, started-is}
use Rattle.hyena_blocks.proofs.start.Goals as goal

pub returns : goal.returns
returns c =
    let a = c.args in
    let h : Bytes a.nonce.now = λ i. omega (arith, c.type_inv.nonce i) in
    started-is (enciphers a.e) (start_block (take 12 a.nonce.now) a.«data» a.text) _
    (start_is a.nonce.now a.«data» a.text _ h c.load-low.ensures c.load-high.ensures
    c.marks.ensures.0)
    c.block-y.ensures c.double_of.ensures
