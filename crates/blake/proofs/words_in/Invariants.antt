use Rattle.std.proofs.Common.{◌≡◌, ℕ, ◌*◌, ◌<◌, length, get_or}
use Rattle.words.specs.Block.{part}
use Rattle.words.specs.Bytes.{number}
use Rattle.blake.specs.Blake.{padded}
use Rattle.blake.proofs.words_in.Given as goal

abbrev pub invariant-loop-i : goal.invariant-loop-i
invariant-loop-i l =
    (length l.m ≡ 16) × ((j : ℕ) → j < l.i → get_or l.m j 0 ≡ number (part (padded l.s) (8 * j) 8))
