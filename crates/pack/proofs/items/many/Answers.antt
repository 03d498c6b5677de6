use Rattle.std.proofs.Common.{arith, rules, refl, Err, ◌≡◌, ◌-◌, ◌+◌}
use Rattle.std.proofs.Math.Nat.{sub-zero}
use Rattle.pack.proofs.Steps.{pass-start, pass_all, pass-ends, pass-finds, pass_on}
use Rattle.pack.proofs.items.many.Goals as goal

pub loop-i-init : goal.loop-i-init
loop-i-init c = rw sub-zero (pass-start _ _ _ _ _ c.requires.0)

pub item_at-requires : goal.item_at-requires
item_at-requires c = (c.loop-i.invariant.fits, c.requires.1)

pub returns-in_err-length : goal.returns-in_err-length
returns-in_err-length c =
    let e : c.from_residual.result ≡ Err c.in_err-length.field-0.0 = search rules in
    rw e (pass-ends _ _ c.loop-i.invariant (omega (arith, c.loop-i-test.true)) refl c.in_err-length.ensures.0 _
    c.in_err-length.ensures.1)

pub returns-then-place-eq0 : goal.returns-then-place-eq0
returns-then-place-eq0 c =
    pass-finds _ _ c.loop-i.invariant (omega (arith, c.loop-i-test.true)) refl c.in_ok-length.ensures.0
    c.in_ok-length.ensures.1 c.if-place-eq0.true

pub loop-i-preserved : goal.loop-i-preserved
loop-i-preserved c =
    let left : c.args.count - (c.loop-i.i + 1) ≡ c.args.count - c.loop-i.i - 1 = omega arith in
    rw left (pass_on _ _ c.loop-i.invariant (omega (arith, c.loop-i-test.true)) refl c.in_ok-length.ensures.0
    c.in_ok-length.ensures.1 c.if-place-eq0.false)

pub returns : goal.returns
returns c = pass_all _ _ c.loop-i.invariant (omega arith)
