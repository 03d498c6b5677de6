use Rattle.std.proofs.Common.{arith}
use Rattle.hexadecimal.proofs.Hexes.{read_next, read-end}
use Rattle.hexadecimal.proofs.take_in.Goals as goal

pub loop-b-preserved : goal.loop-b-preserved
loop-b-preserved c =
    read_next c.args.text.now c.loop-b.b-index (record { hex = c.loop-b.read; room = c.loop-b.room }) _ _
    c.loop-b-test.true c.one-read.ensures c.loop-b.invariant

pub returns : goal.returns
returns c = read-end c.args.text.now c.loop-b.b-index _ _ (omega arith) c.loop-b.invariant
