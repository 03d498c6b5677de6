use Rattle.std.proofs.Common.{arith}
use Rattle.blake.proofs.Hashing.{absorb-next, absorb-last}
use Rattle.blake.proofs.absorb.Goals as goal

pub loop-i-preserved : goal.loop-i-preserved
loop-i-preserved c =
    let l = c.loop-i in
    absorb-next c.args.s.now l.h _ _ c.args.t l.i _ (omega (arith, c.saturating_sub-n.ensures)) c.loop-i-test.true
    c.compress_in.ensures l.invariant

pub returns : goal.returns
returns c =
    let l = c.loop-i in
    absorb-last c.args.s.now l.h _ _ c.args.t l.i _ (omega (arith, c.saturating_sub-n.ensures)) (omega arith)
    c.compress_in-2.ensures l.invariant
