use mathlib.Core.Path.{◌≡◌}
use Prim.Native.Nat.{◌+◌}
use native.Mathlib.Omega.{arith}
use lib.ListN.{get_or, get_or-eq_default}
use Rattle.words.proofs.WordLists.{number-two}
use Rattle.words.proofs.two.Goals as goal

pub returns-then-s-at : goal.returns-then-s-at
returns-then-s-at c =
    let a = c.args in
    let lo : get_or a.s.now a.at 0 ≡ 0 = get_or-eq_default a.s.now 0 c.if-s-at.true in
    let hi : get_or a.s.now (a.at + 1) 0 ≡ 0 = get_or-eq_default a.s.now 0 (omega arith) in
    omega (arith, number-two a.s.now a.at, lo, hi)

pub returns : goal.returns
returns c =
    let a = c.args in
    omega (arith, number-two a.s.now a.at, c.byte.ensures, c.byte-2.ensures, c.from_le_bytes.ensures)
