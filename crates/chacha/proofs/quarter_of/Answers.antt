use Rattle.std.proofs.Common.{arith}
use Rattle.chacha.proofs.Rounds.{quarter-is}
use Rattle.chacha.proofs.quarter_of.Goals as goal

pub returns : goal.returns
returns c =
    let a = c.args in
    quarter-is a.a a.b a.c a.d _ _ _ _ (omega arith) (omega arith) (omega arith) (omega arith)
    c.rotate_left-d1.ensures c.rotate_left-b1.ensures c.rotate_left-d2.ensures c.rotate_left-b2.ensures
