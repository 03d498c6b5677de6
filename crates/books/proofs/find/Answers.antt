use Rattle.std.proofs.lemmas.Result.{err_from_is_err_and}
use Rattle.books.proofs.Finding.{bad, in-this, in-last, in-neither}
use Rattle.books.proofs.find.Goals as goal

pub returns-in_err-judge : goal.returns-in_err-judge
returns-in_err-judge c =
    let a = c.args in
    let p = err_from_is_err_and c.from_residual.result c.from_residual.ensures.1 in
    rw (p.1, p.2) (bad a.this_term.now a.last_term.now a.class _ c.in_err-judge.ensures)

pub returns-in-Some : goal.returns-in-Some
returns-in-Some c =
    let a = c.args in
    in-this a.this_term.now a.last_term.now a.class c.in_ok-judge.ensures _ c.in-Some.ensures

pub returns-in_err-offset : goal.returns-in_err-offset
returns-in_err-offset c =
    let a = c.args in
    let r = c.from_residual-in_err-offset in
    let p = err_from_is_err_and r.result r.ensures.1 in
    rw (p.1, p.2)
    (in-neither a.this_term.now a.last_term.now a.class c.in_ok-judge.ensures c.in_default.ensures _ c.key_in-2.ensures
    _ c.in_err-offset.ensures.value)

pub returns : goal.returns
returns c =
    let a = c.args in
    in-last a.this_term.now a.last_term.now a.class c.in_ok-judge.ensures c.in_default.ensures _ c.key_in-2.ensures _
    c.in_ok-offset.ensures.value
