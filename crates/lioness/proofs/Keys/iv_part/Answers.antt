use Rattle.std.proofs.Common.{arith}
use Rattle.lioness.proofs.Steps.{piece-is}
use Rattle.lioness.proofs.Keys.iv_part.Goals as goal

pub returns-clause-part : goal.returns-clause-part
returns-clause-part c =
    let e = c.number-end.ensures in
    piece-is 12 _ _ _ c.args.self.now.iv.now (omega (arith, e.0, e.1)) (omega (arith, e.0, e.1))
