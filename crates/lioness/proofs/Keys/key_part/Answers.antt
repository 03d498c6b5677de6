use Rattle.std.proofs.Common.{arith}
use Rattle.lioness.proofs.Steps.{piece-is}
use Rattle.lioness.proofs.Keys.key_part.Goals as goal

pub returns-clause-part : goal.returns-clause-part
returns-clause-part c =
    let e = c.number-end.ensures in
    piece-is 32 _ _ _ c.args.self.now.key.now (omega (arith, e.0, e.1)) (omega (arith, e.0, e.1))
