use Prim.Native.Nat.{ℕ, ◌*◌, ◌/◌, ◌%◌, ◌^◌}
use mathlib.Core.Path.{◌≡◌, sym, ap, ap₂, ◌∙◌}
use native.Mathlib.Omega.{arith}
use Rattle.words.specs.Block.{value, halves}
use Rattle.words.specs.Digits.{xsum}
use Rattle.words.proofs.Blocks.{sum-next}
use Rattle.words.proofs.Sums.{pow-pow}
use Rattle.gift.specs.Gift.{nibble, sbox, sub_cells}
use Rattle.words.proofs.Fields.{put-fits}
use Rattle.gift.proofs.sub_cells.Goals as goal

pub loop-j-init : goal.loop-j-init
unfolding xsum halves
loop-j-init c = c.from-acc.ensures

pub put-acc-requires : goal.put-acc-requires
put-acc-requires c =
    (omega arith, put-fits _ 4 (4 * c.loop-j.j) c.sbox_of.ensures.1 (omega arith))

pub loop-j-preserved : goal.loop-j-preserved
loop-j-preserved c =
    let l = c.loop-j in
    let a = c.args in
    sum-next (λ k. sbox a.back (nibble k (value a.x)) * 16 ^ k) l.j l.invariant c.put-acc.ensures
    (ap₂ (λ (v p : ℕ). v * p) (c.sbox_of.ensures.0
    ∙ ap (sbox a.back) (c.bits_at.ensures
    ∙ ap (λ (p : ℕ). value a.x / p % 16) (sym (pow-pow 4 l.j)))) (sym (pow-pow 4 l.j)))

pub returns : goal.returns
unfolding sub_cells
returns c =
    let a = c.args in
    let e : c.loop-j.j ≡ 32 = omega arith in
    c.loop-j.invariant ∙ ap (λ (j : ℕ). halves (xsum (λ k. sbox a.back (nibble k (value a.x)) * 16 ^ k) j)) e
