use Rattle.std.proofs.Common.{arith, rules, ap, sym, ◌≡◌, cond}
use Rattle.answers.specs.Answers.{number_of}
use Rattle.pack.specs.Pack.{item_rows, Refused}
use Rattle.pack.proofs.Steps.{number_is, number_small, cond-most, is-cut, too-few, too_many, is-allowed}
use Rattle.pack.proofs.items.item_at.Goals as goal
use Rattle.pack.proofs.items.item_at.Goals.{then-n-least-via-then-n-least, then-n-least-via-else-n-least+then-most-n}

pub overflow_add-width : goal.overflow_add-width
overflow_add-width c =
    let a = c.args in
    let small = number_small a.pack.now (λ i. omega (arith, c.type_inv.pack i)) a.at a.width c.requires.1
    c.load-n.ensures in
    let em : c.if-counts.bytes ≡ cond a.counts c.load-n.result.lo 0 = search rules in
    let most = cond-most a.counts em in
    omega (arith, small, most, c.requires.1)

pub returns-then-pack-at : goal.returns-then-pack-at
returns-then-pack-at c =
    let a = c.args in
    let em : c.if-counts.bytes ≡ cond a.counts c.load-n.result.lo 0 = search rules in
    let e = is-cut a.pack.now (λ i. omega (arith, c.type_inv.pack i)) a.at a.width c.requires.1 c.load-n.ensures
    a.counts a.least a.most c.requires.0 em c.if-pack-at.true in
    (λ z. omega (arith, e, z), ap Refused (sym e))

pub returns-then-n-least : goal.returns-then-n-least
returns-then-n-least c =
    let a = c.args in
    let em : c.if-counts.bytes ≡ cond a.counts c.load-n.result.lo 0 = search rules in
    let few = too-few a.pack.now (λ i. omega (arith, c.type_inv.pack i)) a.at a.width c.requires.1 c.load-n.ensures
    a.counts a.least a.most c.requires.0 em c.if-pack-at.false in
    let many = too_many a.pack.now (λ i. omega (arith, c.type_inv.pack i)) a.at a.width c.requires.1 c.load-n.ensures
    a.counts a.least a.most c.requires.0 em c.if-pack-at.false in
    let e : number_of (item_rows a.pack.now a.at a.width a.counts a.least a.most) ≡ 13 =
    elim c.then-n-least.branch [
      | then-n-least-via-then-n-least w ↦ few w.if-n-least.true
      | then-n-least-via-else-n-least+then-most-n w ↦ many w.if-most-n.true
    ] in
    (λ z. omega (arith, e, z), ap Refused (sym e))

pub returns : goal.returns
returns c =
    let a = c.args in
    let em : c.if-counts.bytes ≡ cond a.counts c.load-n.result.lo 0 = search rules in (
      is-allowed a.pack.now (λ i. omega (arith, c.type_inv.pack i)) a.at a.width c.requires.1 c.load-n.ensures
          a.counts a.least a.most c.requires.0 em c.if-pack-at.false c.if-n-least.false c.if-most-n.false,
      number_is a.pack.now (λ i. omega (arith, c.type_inv.pack i)) a.at a.width c.requires.1 c.load-n.ensures,
      number_small a.pack.now (λ i. omega (arith, c.type_inv.pack i)) a.at a.width c.requires.1 c.load-n.ensures,
    )
