use mathlib.Core.Path.{◌≡◌, refl, ap}
use Prim.Native.Nat.{◌<◌, ◌-◌, ◌*◌, ◌/◌}
use mathlib.Core.Bool.{cond}
use lib.Dec.{eqb}
use lib.ListN.{length}
use borrow.Author.Tests.{eq-eqb, ne_eqb}
use native.Mathlib.Omega.{arith}
use Rattle.mode.specs.Hyena.{before}
use Rattle.hyena_blocks.specs.Steps.{enciphers, read_x}
use Rattle.hyena.specs.Source.{source}
use Rattle.hyena.proofs.Steps.{taken, text-start, text-next, text-end, text-empty}
use Rattle.hyena.proofs.all_text.Goals as goal
use Rattle.hyena.proofs.all_text.Goals.{then-last-eq16, else-last-eq16}

pub returns-then-len-eq0 : goal.returns-then-len-eq0
returns-then-len-eq0 c =
    let a = c.args in
    text-empty (enciphers a.e) a.opening a.t (source a.text a.room.now)
    a.room.now (omega arith) (omega (arith, ap length (taken a.text _ c.unwrap_or-len.ensures)))

pub loop-i-init : goal.loop-i-init
loop-i-init c =
    let a = c.args in
    text-start (enciphers a.e) a.opening a.t (source a.text a.room.now) a.room.now (omega arith)

pub loop-i-preserved : goal.loop-i-preserved
loop-i-preserved c =
    let a = c.args in
    let S = source a.text a.room.now in
    let t : c.loop-i.i < before S = omega (arith, ap length (taken a.text _ c.unwrap_or-len.ensures)) in
    text-next (enciphers a.e) a.opening a.text a.room.now (read_x a.t) refl
    c.loop-i.i t c.loop-i.invariant c.text_part-s.ensures.0 c.text_part-s.ensures.1

pub returns : goal.returns
returns c =
    let a = c.args in
    let len = length c.unwrap_or-len.result.now in
    let is : len ≡ length (source a.text a.room.now) = ap length (taken a.text _ c.unwrap_or-len.ensures) in
    let last = len - 16 * ((len - 1) / 16) in
    let k : c.if-last-eq16.doublings ≡ cond (eqb last 16) 2 3 = elim c.if-last-eq16.branch [
      | then-last-eq16 w ↦ rw (eq-eqb last 16 w.if-last-eq16.true) w.doublings-is
      | else-last-eq16 w ↦ rw (ne_eqb last 16 w.if-last-eq16.false) w.doublings-is
    ] in
    text-end (enciphers a.e) a.opening a.text a.room.now (read_x a.t) refl
    len c.loop-i.i is c.if-len-eq0.false (omega arith) c.loop-i.invariant
    k c.text_part.ensures.0 c.text_part.ensures.1
