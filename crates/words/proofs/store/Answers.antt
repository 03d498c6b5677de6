use Prim.Native.Nat.{ℕ, ◌+◌, ◌-◌}
use mathlib.Core.Path.{sym, ap, ◌∙◌}
use mathlib.Core.List.{List}
use native.Mathlib.Omega.{arith}
use lib.Seq.{sets}
use Rattle.words.specs.Bytes.{bytes}
use Rattle.words.proofs.Blocks.{stored_short, stored-long}
use Rattle.words.proofs.store.Goals as goal

pub returns-then-m-le8 : goal.returns-then-m-le8
returns-then-m-le8 c =
    let a = c.args in
    c.put.ensures ∙ sym (stored_short a.s.now a.b (omega arith) a.at a.n _
    c.there-m.ensures (omega arith))

pub returns : goal.returns
returns c =
    let a = c.args in
    let m = c.there-m.result in
    c.put-3.ensures
    ∙ ap (λ (l : List ℕ). sets l (a.at + 8) (bytes (m - 8) a.b.hi))
    c.put-2.ensures
    ∙ sym (stored-long a.s.now a.b (omega arith) a.at a.n _
    c.there-m.ensures (omega arith))
