use Prim.Native.Nat.{◌+◌, ◌-◌}
use mathlib.Core.Path.{◌≡◌}
use lib.Seq.{sets}
use Rattle.words.specs.Bytes.{bytes}
use Rattle.words.proofs.put_up.Given as goal

abbrev pub invariant-loop-i : goal.invariant-loop-i
invariant-loop-i l =
    sets l.s (l.at + l.i) (bytes (l.n - l.i) l.rest) ≡ sets l.initial.s l.at (bytes l.n l.w)
