use Prim.Native.Nat.{◌+◌, ◌-◌, ◌*◌, ◌^◌, ◌<◌}
use mathlib.Core.Path.{◌≡◌, sym, ◌∙◌}
use native.Mathlib.Omega.{arith}
use lib.ListN.{get_or}
use Rattle.words.specs.Bytes.{number}
use Rattle.words.proofs.Words.{rest, rest-above, rest-next, rest-fits}
use Rattle.words.proofs.word_down.Goals as goal
use Rattle.words.proofs.word_down.Goals.{In-loop-i}

pub loop-i-init : goal.loop-i-init
loop-i-init c =
    let a = c.args in
    c.above-acc.ensures ∙ sym (rest-above a.s.now a.at a.n a.top c.requires.0 c.requires.1)

-- what a step makes of acc, and that it fits
turn : (c : In-loop-i) →
    let l = c.loop-i in
    let a = c.args in
    (l.acc * 256 + get_or a.s.now (a.at + (l.i - 1)) 0
    ≡ number (rest a.s.now a.at a.n a.top (l.i - 1)))
    × (number (rest a.s.now a.at a.n a.top (l.i - 1)) < 2 ^ 64)
turn c =
    let a = c.args in
    let l = c.loop-i in
    let g = c.type_inv.s in
    let s = a.s.now in (
      rw l.invariant (rest-next s a.at a.n a.top c.requires.0 c.requires.1 l.i c.loop-i-test.true
          (omega arith)),
      rest-fits s a.at a.n a.top c.requires.0 c.requires.1 (l.i - 1) (omega arith) (λ k. omega (arith, g k)),
    )

pub overflow_mul-acc : goal.overflow_mul-acc
overflow_mul-acc c = omega
    (arith, (turn (goal.at.overflow_mul-acc c).In-loop-i).0, (turn (goal.at.overflow_mul-acc c).In-loop-i).1)

pub overflow_add-acc : goal.overflow_add-acc
overflow_add-acc c = omega (
  arith,
  (turn (goal.at.overflow_add-acc c).In-loop-i).0,
  (turn (goal.at.overflow_add-acc c).In-loop-i).1,
  c.from.ensures,
)

pub loop-i-preserved : goal.loop-i-preserved
loop-i-preserved c = rw c.from.ensures (turn (goal.at.loop-i-preserved c).In-loop-i).0
