use Rattle.std.proofs.Common.{ap, ◌∙◌}
use Rattle.words.specs.Words.{words}
use Rattle.blake.proofs.Hashing.{padded-take}
use Rattle.blake.proofs.words_of.Goals as goal

pub returns-then-s-ge128 : goal.returns-then-s-ge128
returns-then-s-ge128 c = c.words_in.ensures ∙ ap (words 8 16) (padded-take c.args.s.now)
