use Prim.Native.Nat.{◌+◌}
use mathlib.Core.Path.{◌≡◌}
use lib.ListN.{drop}
use Rattle.words.specs.Block.{part}
use Rattle.words.specs.Bytes.{plus_at}
use Rattle.words.proofs.add.Given as goal

abbrev pub invariant-loop-i : goal.invariant-loop-i
invariant-loop-i l =
    plus_at (l.at + l.i) l.s (drop l.i (part l.t l.from l.n)) ≡ plus_at l.at l.initial.s (part l.t l.from l.n)
