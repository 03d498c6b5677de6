use Rattle.std.proofs.Common.{◌∙◌, ap₂}
use Rattle.std.proofs.lemmas.Result.{err_from_is_err_and}
use Rattle.answers.specs.Answers.{answered}
use Rattle.drawer.proofs.Steps.{refused-is, drawn-is}
use Rattle.drawer.proofs.draw.Goals as goal

pub returns-in_err-refuse : goal.returns-in_err-refuse
returns-in_err-refuse c =
    let p = err_from_is_err_and c.from_residual.result c.from_residual.ensures.1 in
    rw (p.1, p.2) (refused-is c.args.d _ _ c.in_err-refuse.ensures c.remaining.ensures)

pub returns : goal.returns
returns c =
    ap₂ (λ b n. answered 0 (record { bytes = b; next = n })) c.next_nonce.ensures c.start.ensures
    ∙ drawn-is c.args.d _ _ c.in_ok-refuse.ensures c.remaining.ensures
