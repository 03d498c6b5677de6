use mathlib.Core.Bool.{cond}
use Prim.Native.Nat.{ℕ, ◌*◌, ◌^◌, ◌<◌}
use mathlib.Core.Path.{◌≡◌, ap, ap₂, ◌∙◌}
use native.Mathlib.Omega.{arith}
use Rattle.words.specs.Block.{value, halves}
use Rattle.words.specs.Digits.{xsum}
use Rattle.words.proofs.Blocks.{sum-next}
use Rattle.words.proofs.Tests.{cond-lt}
use Rattle.gift.specs.Gift.{bit, place, perm_bits}
use Rattle.words.proofs.Fields.{put-fits}
use Rattle.gift.proofs.Steps.{place-lt}
use Rattle.gift.proofs.perm_bits.Goals as goal
use Rattle.gift.proofs.perm_bits.Goals.{After-ends-from}

pub loop-i-init : goal.loop-i-init
unfolding xsum halves
loop-i-init c = c.from-acc.ensures

-- from where, and to where
from : (c : After-ends-from) → c.ends-from.result.0 ≡ cond c.args.back (place c.loop-i.i) c.loop-i.i
from c = ap (λ p. p.0) c.ends-from.ensures

to : (c : After-ends-from) → c.ends-from.result.1 ≡ cond c.args.back c.loop-i.i (place c.loop-i.i)
to c = ap (λ p. p.1) c.ends-from.ensures

pub bits_at-requires : goal.bits_at-requires
bits_at-requires c =
    let h : c.ends-from.result.0 < 128 = rw (from c)
    (cond-lt c.args.back (place-lt c.loop-i.i (omega arith)) (omega arith)) in
    (h, omega arith, omega arith)

pub put-acc-requires : goal.put-acc-requires
put-acc-requires c = (
  rw (to (goal.at.put-acc-requires c).After-ends-from)
      (cond-lt c.args.back (omega arith) (place-lt c.loop-i.i (omega arith))),
  put-fits
      _ 1 c.ends-from.result.1 (omega arith) (omega arith),
)

pub loop-i-preserved : goal.loop-i-preserved
loop-i-preserved c =
    let a = c.args in
    sum-next (λ k. bit (cond a.back (place k) k) (value a.x) * 2 ^ cond a.back k (place k)) c.loop-i.i
    c.loop-i.invariant c.put-acc.ensures
    (ap₂ (λ (v p : ℕ). v * 2 ^ p) (c.bits_at.ensures
    ∙ ap (λ (i : ℕ). bit i (value a.x)) (from (goal.at.loop-i-preserved c).After-ends-from))
    (to (goal.at.loop-i-preserved c).After-ends-from))

pub returns : goal.returns
unfolding perm_bits
returns c =
    let a = c.args in
    let e : c.loop-i.i ≡ 128 = omega arith in
    c.loop-i.invariant ∙ ap (λ (i : ℕ). halves
    (xsum (λ k. bit (cond a.back (place k) k) (value a.x) * 2 ^ cond a.back k (place k)) i)) e
