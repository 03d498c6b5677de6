use mathlib.Core.Bool.{cond}
use Prim.Native.Nat.{ℕ, ◌-◌}
use mathlib.Core.Path.{◌≡◌, refl, sym, ap, ap₂, ◌∙◌}
use native.Mathlib.Omega.{arith}
use lib.ListN.{get_or}
use Rattle.words.specs.Block.{value, halves}
use Rattle.words.proofs.Blocks.{value-is, halves-value}
use Rattle.words.proofs.Iterate.{iterate-none, iterate-next}
use Rattle.gift.specs.Gift.{round, rounds, forty}
use Rattle.gift.specs.Entry.{round_key_in}
use Rattle.gift.proofs.forty_rounds.Goals as goal

pub loop-r-init : goal.loop-r-init
loop-r-init c = sym (ap halves (iterate-none _ _) ∙ halves-value c.args.x (omega arith))

pub loop-r-preserved : goal.loop-r-preserved
unfolding halves
loop-r-preserved c =
    let l = c.loop-r in
    let a = c.args in
    let f : ℕ → ℕ = λ i. value (get_or a.a.rounds (cond a.back (39 - i) i) (halves 0)) in
    c.round_of-y.ensures
    ∙ ap halves
    (ap₂ (round a.back) (ap (λ (i : ℕ). value (get_or a.a.rounds i (halves 0))) c.round_index-at.ensures.0)
    (value-is l.invariant)
    ∙ iterate-next (λ i. round a.back (f i)) l.r (value a.x) refl refl)

pub returns : goal.returns
unfolding forty round_key_in
returns c =
    let l = c.loop-r in
    let a = c.args in
    let e : l.r ≡ 40 = omega arith in
    l.invariant ∙ ap (λ (n : ℕ). halves (rounds a.back
    (λ i. value (get_or a.a.rounds (cond a.back (39 - i) i) (halves 0))) n (value a.x))) e
