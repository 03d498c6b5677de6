use mathlib.Core.Path.{ap, ◌∙◌}
use native.Mathlib.Omega.{arith}
use Rattle.words.specs.Block.{halves}
use Rattle.hyena_blocks.specs.Steps.{enciphers}
use Rattle.hyena_blocks.proofs.Steps.{swapped-is}
use Rattle.hyena_blocks.proofs.tag_of.Goals as goal

pub returns : goal.returns
returns c =
    let a = c.args in
    c.block.ensures ∙ ap (λ x. halves (enciphers a.e x)) (swapped-is a.t.x (omega arith))
