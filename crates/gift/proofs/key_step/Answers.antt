use mathlib.Core.Path.{◌∙◌}
use native.Mathlib.Omega.{arith}
use lib.Dec.{lit≤}
use Rattle.words.proofs.Rotation.{rotr-or}
use Rattle.gift.proofs.Keys.{key_step-is}
use Rattle.gift.proofs.key_step.Goals as goal

pub returns : goal.returns
returns c =
    key_step-is c.args.k _ _ (omega arith)
    (c.from-a.ensures ∙ c.rotate_right.ensures ∙ rotr-or 16 2 _ (lit≤ tt) (omega arith))
    (c.from-b.ensures ∙ c.rotate_right-2.ensures ∙ rotr-or 16 12 _ (lit≤ tt) (omega arith))
