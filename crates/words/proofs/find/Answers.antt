use Prim.Native.Nat.{◌-◌}
use native.Mathlib.Omega.{arith}
use lib.ListN.{take, drop, length-drop, length-take}
use mathlib.Core.Path.{sym, ◌∙◌}
use Rattle.words.proofs.Search.{place_of-part, place_of-le, place_of-some, place_of-none, ended}
use Rattle.words.proofs.find.Goals as goal

pub returns-then-end-from : goal.returns-then-end-from
returns-then-end-from c = ended c.args.s.now c.args.b c.args.from c.args.to (omega arith)

pub returns-in-Some : goal.returns-in-Some
returns-in-Some c =
    let a = c.args in
    let n = c.min-end.result - a.from in
    omega (
      arith,
      place_of-part a.b n (drop a.from a.s.now),
      place_of-some a.b (take n (drop a.from a.s.now)) _ (sym c.position_of.ensures ∙ c.in-Some.is),
      place_of-le a.b (take n (drop a.from a.s.now)),
      place_of-le a.b (drop a.from a.s.now),
      length-drop a.from a.s.now,
    )

pub returns-in-None : goal.returns-in-None
returns-in-None c =
    let a = c.args in
    let n = c.min-end.result - a.from in
    omega (
      arith,
      place_of-part a.b n (drop a.from a.s.now),
      place_of-none a.b (take n (drop a.from a.s.now)) (sym c.position_of.ensures ∙ c.in-None.is),
      place_of-le a.b (drop a.from a.s.now),
      length-drop a.from a.s.now,
      length-take n (drop a.from a.s.now),
    )
