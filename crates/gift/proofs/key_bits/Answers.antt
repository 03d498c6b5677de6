use mathlib.Core.Path.{ap, ap₂, ◌∙◌}
use native.Mathlib.Omega.{arith}
use lib.Bits.{bit_xor}
use Rattle.words.specs.Block.{halves}
use Rattle.words.proofs.Blocks.{value-is}
use Rattle.gift.specs.Gift.{key_bits, spread}
use Rattle.gift.proofs.Keys.{key_u-is, key_v-is}
use Rattle.gift.proofs.key_bits.Goals as goal

pub returns : goal.returns
unfolding key_bits
returns c =
    let k = c.args.k in
    c.bitxor.ensures
    ∙ ap halves (ap₂ bit_xor
    (value-is c.spread_of.ensures ∙ ap (spread 2 32) (key_u-is k (omega arith)))
    (value-is c.spread_of-2.ensures ∙ ap (spread 1 32) (key_v-is k)))
