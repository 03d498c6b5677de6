use Rattle.std.proofs.Common.{arith, rules, sym, ap, Ok, Err, ◌≡◌, ◌∙◌}
use Rattle.pack.specs.Pack.{card_at}
use Rattle.pack.specs.Reader.{said, is_card}
use Rattle.pack.proofs.Cards.{card-said, card-place, bad-is, done-is, moves_on, stays}
use Rattle.pack.proofs.next.Goals as goal
use Rattle.pack.proofs.next.Goals.{In-Some}

pub returns-in_err-card : goal.returns-in_err-card
returns-in_err-card c =
    let e : c.from_residual.result ≡ Err c.in_err-card.field-0.0 = search rules in
    rw e (stays c.args.reader.now c.in_err-card.ensures (bad-is c.in_err-card.field-0.0))

pub returns-in_default : goal.returns-in_default
returns-in_default c =
    stays c.args.reader.now (sym (ap (λ x. said (Ok x)) c.in_default.is) ∙ c.in_ok-card.ensures) done-is

given : (c : In-Some) → said (Ok c.in_ok-card.field-0) ≡ card_at c.args.reader.now.pack.now c.args.reader.now.place
given c = c.in_ok-card.ensures

pub overflow_add-reader : goal.overflow_add-reader
overflow_add-reader c =
    let r = c.args.reader.now in
    let p = card-place r.pack.now r.place
    (ap is_card (sym (given c) ∙ ap (λ x. said (Ok x)) c.in-Some.is) ∙ card-said c.in-Some.card) in
    omega (arith, p.1)

pub returns : goal.returns
returns c =
    moves_on c.args.reader.now (sym (ap (λ x. said (Ok x)) c.in-Some.is) ∙ c.in_ok-card.ensures)
    (card-said c.in-Some.card)
