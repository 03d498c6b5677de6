use Rattle.std.proofs.lemmas.Result.{err_from_is_err_and}
use Rattle.sealed_card.proofs.SealedCards.{open-refused, opened-is}
use Rattle.sealed_card.proofs.open.Goals as goal

pub returns-in_err-open_refusal : goal.returns-in_err-open_refusal
returns-in_err-open_refusal c =
    let a = c.args in
    let p = err_from_is_err_and c.from_residual.result c.from_residual.ensures.1 in
    rw (p.1, p.2)
    (open-refused a.key.now a.«data».now a.card.now a.room.now c.length_in-n.ensures _ c.in_err-open_refusal.ensures)

pub returns : goal.returns
returns c =
    let a = c.args in
    opened-is a.key.now a.«data».now a.card.now a.room.now c.length_in-n.ensures _ c.in_ok-open_refusal.ensures
    c.from-end.ensures c.«open».ensures
