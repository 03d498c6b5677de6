use mathlib.Core.Path.{◌≡◌}
use Prim.Native.Nat.{◌*◌}
use lib.ListN.{drop}
use lib.Seq.{sets}
use Rattle.words.specs.Bytes.{over}
use Rattle.hexadecimal.specs.Hex.{written}
use Rattle.hexadecimal.proofs.spell.Given as goal

abbrev pub invariant-loop-i : goal.invariant-loop-i
invariant-loop-i l = sets l.room (2 * l.i) (written (drop l.i l.s)) ≡ over (written l.s) l.initial.room
