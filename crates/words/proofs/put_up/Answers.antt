use Prim.Native.Nat.{◌-◌}
use mathlib.Core.Path.{◌≡◌}
use native.Mathlib.Omega.{arith}
use Rattle.words.proofs.Bytes.{put_next, bytes-none}
use Rattle.words.proofs.put_up.Goals as goal

pub loop-i-preserved : goal.loop-i-preserved
loop-i-preserved c =
    let l = c.loop-i in
    let a = c.args in
    put_next l.s _ a.at l.i a.n l.rest c.loop-i-test.true l.invariant

pub returns : goal.returns
returns c =
    let l = c.loop-i in
    let a = c.args in
    let e : a.n - l.i ≡ 0 = omega arith in
    rw (e, bytes-none) at l.invariant
