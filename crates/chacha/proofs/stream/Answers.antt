use Rattle.std.proofs.Common.{length, Err, sym, refl, ◌∙◌, ap₂}
use Rattle.std.proofs.lemmas.Result.{err_from_is_err_and}
use Rattle.answers.specs.Answers.{answered}
use Rattle.answers.proofs.Answers.{refuse-clear, handed-on, goes-on}
use Rattle.chacha.specs.Entry.{rows, stopped_at, streaming}
use Rattle.chacha.proofs.stream.Goals as goal

pub returns-in_err-refusal : goal.returns-in_err-refusal
unfolding streaming
returns-in_err-refusal c =
    let a = c.args in
    let p = err_from_is_err_and c.from_residual.result c.from_residual.ensures.1 in
    rw (p.1, p.2)
    (handed-on {B = Unit {0}} (Err _) (rows (length a.key.now) (length a.nonce.now) a.start (length a.text.now))
    c.in_err-refusal.ensures refl _ _)

pub returns : goal.returns
unfolding streaming
returns c =
    let a = c.args in
    let rs = rows (length a.key.now) (length a.nonce.now) a.start (length a.text.now) in
    let f = c.stream_from.ensures in
    ap₂ (λ n t. answered 0 (stopped_at n t)) f.1 f.0
    ∙ sym (refuse-clear _ _ rs (goes-on rs c.in_ok-refusal.ensures tt))
