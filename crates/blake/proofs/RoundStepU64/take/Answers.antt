use Prim.Native.Nat.{◌%◌}
use Rattle.blake.proofs.Mixing.{mixing-is}
use Rattle.blake.proofs.RoundStepU64.take.Goals as goal

pub returns : goal.returns
returns c =
    let a = c.args in
    mixing-is a.self.now.m.now a.self.now.r (a.n % 8) a.a a.b a.c a.d c.mix.ensures c.word.ensures c.word-2.ensures
