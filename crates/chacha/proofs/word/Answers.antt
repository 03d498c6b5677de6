use Rattle.std.proofs.Common.{◌≡◌, ◌^◌, ◌<◌, arith}
use Rattle.words.specs.Block.{part}
use Rattle.words.specs.Bytes.{Bytes, number}
use Rattle.words.proofs.WordLists.{loaded_word, word_lt}
use Rattle.chacha.proofs.word.Goals as goal
use Rattle.chacha.proofs.word.Goals.{After-load}

-- what the load gives, and that it fits
word-is : (c : After-load) →
    let a = c.args in
    (c.load.result.lo ≡ number (part a.s.now a.at 4))
    × (number (part a.s.now a.at 4) < 2 ^ 32)
word-is c =
    let a = c.args in
    let h : Bytes a.s.now = λ k. omega (arith, c.type_inv.s k) in
    (loaded_word a.s.now h a.at 4 c.load.ensures (omega arith), word_lt a.s.now h a.at 4)

pub overflow_cast-result : goal.overflow_cast-result
overflow_cast-result c = let w = word-is (goal.at.overflow_cast-result c).After-load in omega (arith, w.0, w.1)

pub returns : goal.returns
returns c = (word-is (goal.at.returns c).After-load).0
