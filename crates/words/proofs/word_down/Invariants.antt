use mathlib.Core.Path.{◌≡◌}
use Rattle.words.specs.Bytes.{number}
use Rattle.words.proofs.Words.{rest}
use Rattle.words.proofs.word_down.Given as goal

abbrev pub invariant-loop-i : goal.invariant-loop-i
invariant-loop-i l = l.acc ≡ number (rest l.s l.at l.n l.top l.i)
