use Rattle.std.proofs.lemmas.Result.{err_from_is_err_and}
use Rattle.hyena.specs.Entry.{inputs}
use Rattle.sealed_card.proofs.SealedCards.{seal-refused, sealed-is}
use Rattle.sealed_card.proofs.seal.Goals as goal

pub returns-in_err-seal_refusal : goal.returns-in_err-seal_refusal
returns-in_err-seal_refusal c =
    let a = c.args in
    let p = err_from_is_err_and c.from_residual.result c.from_residual.ensures.1 in
    rw (p.1, p.2)
    (seal-refused (inputs a.key.now a.nonce.now a.«data».now a.text.now) a.room.now _ c.in_err-seal_refusal.ensures)

pub returns : goal.returns
returns c =
    let a = c.args in
    sealed-is (inputs a.key.now a.nonce.now a.«data».now a.text.now) a.room.now c.in_ok-seal_refusal.ensures
    c.write.ensures
