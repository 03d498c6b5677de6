use Rattle.std.proofs.Common.{length, Err, sym, refl, ap, ◌∙◌}
use Rattle.std.proofs.lemmas.Result.{err_from_is_err_and}
use Rattle.answers.specs.Answers.{answered}
use Rattle.answers.proofs.Answers.{refuse-clear, handed-on, goes-on}
use Rattle.blake.specs.Entry.{rows, digesting}
use Rattle.blake.proofs.Hashing.{allowed, digest-is}
use Rattle.blake.proofs.digest.Goals as goal

pub returns-in_err-refusal : goal.returns-in_err-refusal
unfolding digesting
returns-in_err-refusal c =
    let a = c.args in
    let p = err_from_is_err_and c.from_residual.result c.from_residual.ensures.1 in
    rw (p.1, p.2)
    (handed-on {B = Unit {0}} (Err _) (rows (length a.key.now) (length a.text.now) (length a.room.now))
    c.in_err-refusal.ensures refl _ _)

pub returns : goal.returns
unfolding digesting
returns c =
    let a = c.args in
    let rs = rows (length a.key.now) (length a.text.now) (length a.room.now) in
    let k = goes-on rs c.in_ok-refusal.ensures tt in
    let l = allowed (length a.key.now) (length a.text.now) (length a.room.now) k in
    ap (answered 0) (digest-is _ _ _ _ _ l.room_most c.hash_of-h.ensures c.put_words.ensures)
    ∙ sym (refuse-clear _ _ rs k)
