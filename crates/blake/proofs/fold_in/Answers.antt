use Rattle.std.proofs.Common.{◌≡◌, ℕ, ◌+◌, get_or, ap, ◌∙◌, arith, length-set, get_or-set_other}
use native.Mathlib.Nat.{le_refl}
use lib.Bits.{bit_xor}
use Rattle.words.proofs.Lists.{fill-next, fill_end}
use Rattle.blake.specs.Blake.{folded}
use Rattle.blake.proofs.fold_in.Goals as goal

pub loop-i-preserved : goal.loop-i-preserved
loop-i-preserved c =
    let l = c.loop-i in
    let v = c.args.v.now in
    let e = ap (λ (x : ℕ). bit_xor (bit_xor x (get_or v l.i 0)) (get_or v (l.i + 8) 0))
    (l.invariant.2 l.i (le_refl l.i)) in (
      length-set l.h l.i _ ∙ l.invariant.0,
      fill-next _ 0 l.h l.i _ (omega arith) l.invariant.1 e,
      λ j k. get_or-set_other l.h l.i j _ 0 (λ q. omega (arith, q)) ∙ l.invariant.2 j (omega arith),
    )

pub returns : goal.returns
unfolding folded
returns c =
    let l = c.loop-i in
    let e : l.i ≡ 8 = omega arith in
    fill_end _ 0 l.h 8 l.invariant.0 (rw e at l.invariant.1)
