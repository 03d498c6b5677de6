use Rattle.std.proofs.Common.{arith, sym, ap, Ok, ◌∙◌, ◌<◌, length}
use Rattle.pack.specs.Pack.{reading}
use Rattle.pack.specs.Reader.{said, is_card}
use Rattle.pack.proofs.Cards.{card-said, card-place, verdict-done, verdict-bad}
use Rattle.pack.proofs.judge.Goals as goal
use Rattle.pack.proofs.judge.Goals.{In-Some}

-- a card is given at a place before the last
before : (c : In-Some) → (c.loop-answer.place < length (reading c.args.pack.now).cards) × (c.loop-answer.place < 14)
before c =
    card-place c.args.pack.now c.loop-answer.place
    (ap is_card (sym c.in-Ok.ensures ∙ ap (λ x. said (Ok x)) c.in-Some.is) ∙ card-said _)

pub overflow_add-place : goal.overflow_add-place
overflow_add-place c = omega (arith, (before c).1)

pub loop-answer-smaller : goal.loop-answer-smaller
loop-answer-smaller c = omega (arith, (before c).0)

pub loop-answer-preserved : goal.loop-answer-preserved
loop-answer-preserved c = omega (arith, (before c).0)

pub returns-in_default : goal.returns-in_default
returns-in_default c =
    verdict-done c.args.pack.now c.loop-answer.place c.loop-answer.invariant
    (sym (ap (λ x. said (Ok x)) c.in_default.is) ∙ c.in-Ok.ensures)

pub returns-in-Err : goal.returns-in-Err
returns-in-Err c =
    verdict-bad c.args.pack.now c.loop-answer.place c.loop-answer.invariant c.in-Err.why c.in-Err.ensures
