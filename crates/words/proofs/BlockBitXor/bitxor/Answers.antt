use native.Mathlib.Omega.{arith}
use lib.Bits.{xor_lt}
use Rattle.words.proofs.Blocks.{whole, xor-halves}
use Rattle.words.proofs.BlockBitXor.bitxor.Goals as goal

pub returns : goal.returns
returns c =
    let a = c.args in
    whole _ (xor_lt 64 a.self.lo a.rhs.lo (omega arith) (omega arith))
    (xor-halves a.self a.rhs (omega arith) (omega arith))
