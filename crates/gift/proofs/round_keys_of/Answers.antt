use Prim.Native.Nat.{◌<◌}
use mathlib.Core.Path.{refl, sym, ap, ◌∙◌}
use native.Mathlib.Nat.{not-suc-le-zero}
use native.Mathlib.Omega.{arith}
use lib.ListN.{length, length-set}
use Rattle.words.specs.Block.{value, halves}
use Rattle.words.specs.Iterate.{iterate}
use Rattle.words.proofs.Blocks.{halves-value}
use Rattle.words.proofs.Lists.{fill-next, fill_end}
use Rattle.words.proofs.Iterate.{iterate-next}
use Rattle.gift.specs.Gift.{step_const, round_key}
use Rattle.gift.specs.Entry.{round_keys}
use Rattle.gift.proofs.Keys.{state-next, round_key-next}
use Rattle.gift.proofs.round_keys_of.Goals as goal

pub loop-round_key-init : goal.loop-round_key-init
unfolding iterate
loop-round_key-init c = (
  omega arith,
  refl,
  sym (halves-value c.args.key (omega arith)),
  refl,
  λ j h. absurd
      (not-suc-le-zero h),
)

pub loop-round_key-preserved : goal.loop-round_key-preserved
loop-round_key-preserved c =
    let l = c.loop-round_key in
    let i = l.round_key-index in
    let out = l.round_key-items in
    let k = value c.args.key in
    let e : i < length out = omega arith in (
      omega arith,
      iterate-next (λ j. step_const) i 0 l.invariant.1 c.step_const-c.ensures.0,
      state-next k i l.invariant.2 c.key_step-state.ensures,
      length-set out i c.bitxor.result ∙ l.invariant.3,
      fill-next (λ j. halves (round_key k j)) (halves 0) out i c.bitxor.result e l.invariant.4
          (round_key-next k i l.invariant.2 l.invariant.1 c.step_const-c.ensures.0
          c.key_bits.ensures c.const_bits.ensures
          c.bitxor.ensures),
    )

pub returns : goal.returns
unfolding round_keys
returns c =
    let l = c.loop-round_key in
    ap (λ o. record { rounds = o })
    (fill_end _ (halves 0) l.round_key-items 40 l.invariant.3 (λ j h. l.invariant.4 j (omega arith)))
