use Rattle.std.proofs.Common.{rules, refl, Err, ◌≡◌}
use Rattle.pack.proofs.Steps.{count-ends, count-goes}
use Rattle.pack.proofs.items.counted.Goals as goal

pub returns-in_err-count : goal.returns-in_err-count
returns-in_err-count c =
    let e : c.from_residual.result ≡ Err c.in_err-count.field-0.0 = search rules in
    rw e (count-ends _ _ _ _ refl c.in_err-count.ensures.0 _ c.in_err-count.ensures.1)

pub returns : goal.returns
returns c = count-goes _ _ _ _ refl c.in_ok-count.ensures.0 c.in_ok-count.ensures.1 c.many.ensures
