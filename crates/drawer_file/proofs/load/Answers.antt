use mathlib.Core.Path.{sym, ◌∙◌}
use native.Mathlib.Omega.{arith}
use Rattle.drawer_file.proofs.Storing.{reader-fits, drawer-is, taken_is, refused-is}
use Rattle.drawer_file.proofs.load.Goals as goal

pub overflow_cast-reader : goal.overflow_cast-reader
overflow_cast-reader c =
    omega (arith, reader-fits c.args.bytes.now (λ i. omega (arith, c.type_inv.bytes i)) _ c.load-reader.ensures)

pub returns-then-same : goal.returns-then-same
returns-then-same c =
    let a = c.args in
    let ed = drawer-is a.bytes.now (λ i. omega (arith, c.type_inv.bytes i)) _ _
    c.load-reader.ensures c.load-count.ensures in
    taken_is a.bytes.now _ _ (c.start-d.ensures ∙ ed) c.store.ensures (sym c.same.ensures ∙ c.if-same.true)

pub returns-else-same : goal.returns-else-same
returns-else-same c =
    let a = c.args in
    let ed = drawer-is a.bytes.now (λ i. omega (arith, c.type_inv.bytes i)) _ _
    c.load-reader.ensures c.load-count.ensures in
    refused-is a.bytes.now _ _ (c.start-d.ensures ∙ ed) c.store.ensures (sym c.same.ensures ∙ c.if-same.false)
