use mathlib.Core.Path.{sym, ap, ◌∙◌}
use mathlib.Core.Bool.{Bool}
use Prim.Native.Nat.{ℕ}
use lib.Bits.{bit_xor}
use Rattle.words.specs.Block.{value, halves}
use Rattle.words.proofs.Blocks.{value-is}
use Rattle.gift.specs.Gift.{sub_cells, perm_bits, round}
use Rattle.gift.proofs.Inverse.{round_is}
use Rattle.gift.proofs.round_of.Goals as goal

pub returns-then-back : goal.returns-then-back
returns-then-back c =
    let a = c.args in
    c.sub_cells.ensures
    ∙ ap halves
    (ap (sub_cells a.back) (value-is c.perm_bits.ensures
    ∙ ap (perm_bits a.back) (value-is c.bitxor.ensures))
    ∙ ap (λ (b : Bool). sub_cells b (perm_bits b (bit_xor (value a.x) (value a.a)))) c.if-back.true
    ∙ (round_is (value a.a) (value a.x)).1
    ∙ ap (λ (b : Bool). round b (value a.a) (value a.x)) (sym c.if-back.true))

pub returns : goal.returns
returns c =
    let a = c.args in
    c.bitxor-2.ensures
    ∙ ap halves
    (ap (λ (y : ℕ). bit_xor y (value a.a)) (value-is c.perm_bits-2.ensures
    ∙ ap (perm_bits a.back) (value-is c.sub_cells-2.ensures))
    ∙ ap (λ (b : Bool). bit_xor (perm_bits b (sub_cells b (value a.x))) (value a.a)) c.if-back.false
    ∙ (round_is (value a.a) (value a.x)).0
    ∙ ap (λ (b : Bool). round b (value a.a) (value a.x)) (sym c.if-back.false))
