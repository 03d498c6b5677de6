use native.Mathlib.Omega.{arith}
use Rattle.words.proofs.Fields.{put_low, put-high}
use Rattle.gift.proofs.put.Goals as goal

pub returns-then-s-lt64 : goal.returns-then-s-lt64
returns-then-s-lt64 c =
    put_low c.args.b c.args.s c.args.v (omega arith) c.requires.1 (omega arith)

pub returns-else-s-lt64 : goal.returns-else-s-lt64
returns-else-s-lt64 c =
    put-high c.args.b c.args.s c.args.v (omega arith) c.requires.1 (omega arith) (omega arith)
