use Rattle.std.proofs.Common.{arith}
use Rattle.blake.proofs.Mixing.{mixed-is}
use Rattle.blake.proofs.mix.Goals as goal

pub returns : goal.returns
returns c =
    let a = c.args in
    mixed-is a.a a.b a.c a.d a.x a.y _ _ _ _ (omega arith) (omega arith) (omega arith) (omega arith)
    c.rotate_right-d1.ensures c.rotate_right-b1.ensures c.rotate_right-d2.ensures c.rotate_right-b2.ensures
