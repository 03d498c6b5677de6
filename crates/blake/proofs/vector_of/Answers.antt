use Rattle.std.proofs.Common.{◌≡◌, cond, length, get_or, arith, rules}
use lib.Bits.{bit_xor}
use Rattle.blake.specs.Blake.{iv}
use Rattle.blake.proofs.Hashing.{vector-is}
use Rattle.blake.proofs.vector_of.Goals as goal
use Rattle.blake.proofs.vector_of.Goals.{Start, then-last, else-last}

long : (c : Start) → length c.args.h.now ≡ 8
long c = search rules

pub returns : goal.returns
unfolding iv
returns c =
    let e : c.if-last.inverted ≡ cond c.args.last (bit_xor (get_or iv 6 0) 0xFFFFFFFFFFFFFFFF) (get_or iv 6 0) =
    elim c.if-last.branch [
      | then-last w ↦ rw w.if-last.true w.inverted-is
      | else-last w ↦ rw w.if-last.false w.inverted-is
    ] in
    vector-is c.args.h.now (long (goal.at.returns c).Start) c.args.t _ c.args.last (omega arith) e
