use mathlib.Core.Bool.{cond}
use mathlib.Core.Path.{◌≡◌, ap, ◌∙◌}
use Rattle.words.specs.Block.{value, halves}
use Rattle.words.specs.Bytes.{number, pad}
use Rattle.hyena_blocks.specs.Steps.{low}
use Rattle.hyena_blocks.proofs.Steps.{feedback-is}
use Rattle.hyena_blocks.proofs.feedback.Goals as goal
use Rattle.hyena_blocks.proofs.feedback.Goals.{then-opening, else-opening, then-opening-2, else-opening-2}

pub returns : goal.returns
returns c =
    let a = c.args in
    let m : c.if-opening.text_side ≡ cond a.opening c.bitxor-sum.result a.d = elim c.if-opening.branch [
      | then-opening w ↦ rw w.if-opening.true w.text_side-is
      | else-opening w ↦ rw w.if-opening.false w.text_side-is
    ] in
    let o : c.if-opening-2.cipher_side ≡ cond a.opening a.d c.bitxor-sum.result = elim c.if-opening-2.branch [
      | then-opening-2 w ↦ rw w.if-opening-2.true w.cipher_side-is
      | else-opening-2 w ↦ rw w.if-opening-2.false w.cipher_side-is
    ] in
    feedback-is a.opening a.y a.d c.bitxor-sum.result c.padded-m.result
    c.padded-c.result a.mask a.n
    c.bitxor-sum.ensures
    (c.padded-m.ensures ∙ ap (λ b. halves (number (pad (low a.n (value b))))) m)
    (c.padded-c.ensures ∙ ap (λ b. halves (number (pad (low a.n (value b))))) o)
    c.bitxor.ensures
