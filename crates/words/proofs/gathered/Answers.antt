use Prim.Native.Nat.{ℕ}
use mathlib.Core.Path.{sym, ap, ap₂, ◌∙◌}
use native.Mathlib.Omega.{arith}
use Rattle.words.proofs.Blocks.{gathered-short, gathered-long}
use Rattle.words.proofs.gathered.Goals as goal

pub returns-then-m-lt8 : goal.returns-then-m-lt8
returns-then-m-lt8 c =
    let a = c.args in
    c.from.ensures
    ∙ ap (λ (l : ℕ). record { lo = l; hi = 0 }) c.word.ensures
    ∙ sym (gathered-short a.s.now (λ k. omega (arith, c.type_inv.s k)) a.top (omega arith)
    a.at a.n _ c.there-m.ensures (omega arith))

pub returns : goal.returns
returns c =
    let a = c.args in
    ap₂ (λ (l h : ℕ). record { lo = l; hi = h }) c.word-2.ensures c.word-3.ensures
    ∙ sym (gathered-long a.s.now (λ k. omega (arith, c.type_inv.s k)) a.top (omega arith)
    a.at a.n _ c.there-m.ensures (omega arith))
