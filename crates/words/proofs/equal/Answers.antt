use native.Mathlib.Omega.{arith}
use Rattle.words.proofs.Comparison.{equal_is}
use Rattle.words.proofs.equal.Goals as goal

pub returns : goal.returns
returns c =
    let a = c.args in
    equal_is a.a a.b (omega arith, omega arith) (omega arith, omega arith)
