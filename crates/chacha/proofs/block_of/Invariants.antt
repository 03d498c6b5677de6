use Rattle.std.proofs.Common.{◌≡◌, ◌*◌, length, drop}
use lib.Seq.{sets}
use Rattle.words.specs.Words.{unwords}
use Rattle.chacha.specs.ChaCha.{sums}
use Rattle.chacha.proofs.block_of.Given as goal

abbrev pub invariant-loop-i : goal.invariant-loop-i
invariant-loop-i l =
    (length l.out ≡ 64) × (sets l.out (4 * l.i) (unwords 4 (drop l.i (sums l.s l.t))) ≡ unwords 4 (sums l.s l.t))
