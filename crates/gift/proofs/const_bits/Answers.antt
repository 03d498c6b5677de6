use mathlib.Core.Path.{ap, ◌∙◌}
use Prim.Native.Nat.{ℕ, ◌^◌}
use lib.Bits.{bit_xor, xor_comm}
use Rattle.words.specs.Block.{halves}
use Rattle.words.proofs.Blocks.{value-is}
use Rattle.gift.specs.Gift.{const_bits, spread}
use Rattle.gift.proofs.const_bits.Goals as goal

pub returns : goal.returns
unfolding const_bits
returns c =
    c.put.ensures
    ∙ ap halves (ap (λ (x : ℕ). bit_xor x (2 ^ 127)) (value-is c.spread_of.ensures)
    ∙ xor_comm (spread 3 6 c.args.c) (2 ^ 127))
