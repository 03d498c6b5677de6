use Prim.Native.Nat.{◌-◌, min}
use mathlib.Core.Path.{◌≡◌, sym, ◌∙◌}
use native.Mathlib.Omega.{arith}
use lib.ListN.{length}
use Rattle.words.proofs.Plus.{plus_at-next, plus_at-end}
use Rattle.words.proofs.add.Goals as goal

pub loop-i-preserved : goal.loop-i-preserved
loop-i-preserved c =
    let l = c.loop-i in
    let a = c.args in
    plus_at-next a.t.now a.from a.n a.at l.i l.s _ (omega arith) (omega arith) (omega arith) l.invariant

pub returns : goal.returns
returns c =
    let l = c.loop-i in
    let a = c.args in
    let e : c.min-m.result ≡ min (length l.s - a.at) (min a.n (length a.t.now - a.from)) = omega arith in
    sym (plus_at-end a.t.now a.from a.n a.at l.i l.s _ e c.loop-i-test.false) ∙ l.invariant
