use mathlib.Core.Path.{◌∙◌, sym}
use native.Mathlib.Omega.{arith}
use Rattle.words.proofs.Bytes.{number-top, number-no-top}
use Rattle.words.proofs.above.Goals as goal

pub returns-then-n-lt8 : goal.returns-then-n-lt8
returns-then-n-lt8 c = c.from.ensures ∙ sym (number-top _ _ (omega arith))

pub returns-else-n-lt8 : goal.returns-else-n-lt8
returns-else-n-lt8 c = sym (number-no-top _ _ (omega arith))
