use Rattle.std.proofs.Common.{◌≡◌, ◌*◌, length, drop}
use lib.Seq.{sets}
use Rattle.words.specs.Words.{unwords}
use Rattle.blake.proofs.put_words.Given as goal

abbrev pub invariant-loop-i : goal.invariant-loop-i
invariant-loop-i l =
    (length l.room ≡ length l.initial.room)
    × (sets l.room (8 * l.i) (unwords 8 (drop l.i l.h)) ≡ sets l.initial.room 0 (unwords 8 l.h))
