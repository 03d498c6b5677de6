use mathlib.Core.Path.{sym}
use native.Mathlib.Omega.{arith}
use borrow.Author.Rules.{rules}
use Rattle.std.proofs.lemmas.Iterator.{empty_from_Zip}
use Rattle.std.proofs.lemmas.Slice.Zip.{Zip-more}
use Rattle.words.proofs.Search.{other_length, same_next, same_end}
use Rattle.words.proofs.same.Goals as goal

pub returns-then-s-t : goal.returns-then-s-t
returns-then-s-t c = sym (other_length _ _ c.if-s-t.true)

pub loop-x-preserved : goal.loop-x-preserved
loop-x-preserved c =
    let m = Zip-more _ c.next.new.self _ _ c.in-Some.is c.next.ensures.steps in
    let h = rw (m.0, m.1) at c.loop-x.invariant in
    (omega arith, same_next _ _ _ _ _ h.1)

pub returns : goal.returns
returns c =
    let h = c.loop-x.invariant in
    let spent = empty_from_Zip _ c.next.new.self _ c.in-None.is c.next.ensures.steps (search rules) in
    same_end _ _ _ spent.0 spent.1 h.1
