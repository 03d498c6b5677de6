use Rattle.std.proofs.Common.{ℕ, get_or, ap}
use Rattle.blake.specs.Blake.{word_at}
use Rattle.blake.proofs.Round.word.Goals as goal

pub returns : goal.returns
unfolding word_at
returns c = ap (λ (k : ℕ). get_or c.args.self.now.m.now k 0) c.place-k.ensures.0
