use Rattle.std.proofs.lemmas.Result.{err_from_is_err_and}
use Rattle.batch.specs.Batch.{Inputs, inputs}
use Rattle.batch.proofs.Entry.{refused-is, not-refused, sealed-is}
use Rattle.batch.proofs.seal.Goals as goal

pub returns-in_err-refusal : goal.returns-in_err-refusal
returns-in_err-refusal c =
    let a = c.args in
    let given : Inputs = inputs a.key.now a.data.now a.texts.now a.lengths.now a.drawer in
    let p = err_from_is_err_and c.from_residual.result c.from_residual.ensures.1 in
    rw (p.1, p.2) (refused-is given a.room.now a.tags.now _ c.in_err-refusal.ensures)

pub seal_each-requires : goal.seal_each-requires
seal_each-requires c =
    let a = c.args in
    let given : Inputs = inputs a.key.now a.data.now a.texts.now a.lengths.now a.drawer in
    not-refused given a.room.now a.tags.now c.in_ok-refusal.ensures

pub returns : goal.returns
returns c =
    let a = c.args in
    let given : Inputs = inputs a.key.now a.data.now a.texts.now a.lengths.now a.drawer in
    sealed-is given a.room.now a.tags.now c.in_ok-refusal.ensures c.seal_each.ensures
