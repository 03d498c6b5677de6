use Rattle.std.proofs.Common.{refl, ◌∙◌}
use Rattle.std.proofs.lemmas.Result.{err_from_is_err_and}
use Rattle.drawer.proofs.Steps.{iv-is, four-joined}
use Rattle.drawer.proofs.iv.Goals as goal

pub returns-in_err-one : goal.returns-in_err-one
returns-in_err-one c =
    let p = err_from_is_err_and c.from_residual.result c.from_residual.ensures.1 in
    rw (p.1, p.2) (iv-is c.args.d _ _ _ _ c.in_err-one.ensures refl)

pub returns : goal.returns
returns c =
    iv-is c.args.d c.in_ok-one.one.next 0 c.in_ok-one.one.bytes _ c.in_ok-one.ensures
    (c.copy_from_slice.ensures.after ∙ c.as_flattened.ensures.value ∙ four-joined c.in_ok-one.one.bytes)
