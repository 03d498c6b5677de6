use Rattle.std.proofs.Common.{get_or, ◌∙◌, arith}
use Rattle.lioness.specs.declared.Step.TheVariants.{First}
use Rattle.lioness.specs.Steps.{number_of_step}
use Rattle.lioness.proofs.Steps.{run-next, odd-step, even-step}
use Rattle.lioness.proofs.in_order.Goals as goal
use Rattle.lioness.proofs.in_order.Goals.{then-number-eq1, else-number-eq1}

pub loop-step-preserved : goal.loop-step-preserved
loop-step-preserved c =
    let l = c.loop-step in
    let j = number_of_step (get_or c.args.order l.step-index First) in
    let e = c.number.ensures.0 in
    run-next _ _ l.block _ _ First c.args.order l.step-index (omega arith)
    (elim c.if-number-eq1.branch [
      | then-number-eq1 w ↦
          odd-step _ _ l.block _ j _ e w.if-number-eq1.true (w.block-is ∙ w.stream_step.ensures)
      | else-number-eq1 w ↦
          even-step _ _ l.block _ j _ e w.if-number-eq1.false (w.block-is ∙ w.digest_step.ensures)
    ]) l.invariant
