use Rattle.std.proofs.Common.{arith, sym, true, ◌≡◌, ◌≤◌, ◌∙◌, get_or}
use Rattle.words.specs.Search.{place_of}
use Rattle.words.proofs.Search.{place-more}
use Rattle.pack.specs.Pack.{offends}
use Rattle.pack.proofs.Shuffles.{large, again, fine, bad-start, bad-none, bad-here, bad-next}
use Rattle.pack.proofs.items.first_bad.Goals as goal

pub loop-i-init : goal.loop-i-init
loop-i-init c = bad-start _

pub loop-j-init : goal.loop-j-init
loop-j-init c = omega arith

pub loop-j-preserved : goal.loop-j-preserved
loop-j-preserved c =
    let s = c.args.entries.now in
    place-more (get_or s c.loop-i.i 0) s c.loop-j.j (omega arith) c.if-entries-j.false c.loop-j.invariant

pub returns-then-entries-from : goal.returns-then-entries-from
returns-then-entries-from c =
    let s = c.args.entries.now in
    let i = c.loop-i.i in
    let l : offends s i ≡ true = large s i (omega (arith, c.if-entries-from.true, c.from.ensures)) in
    (bad-here s i c.loop-i.invariant c.loop-i-test.true l, c.loop-i-test.true)

pub returns-then-entries-j : goal.returns-then-entries-j
returns-then-entries-j c =
    let s = c.args.entries.now in
    let i = c.loop-i.i in
    let a : offends s i ≡ true = again s i c.loop-j.j c.loop-j-test.true c.loop-i-test.true c.if-entries-j.true in
    (bad-here s i c.loop-i.invariant c.loop-i-test.true a, c.loop-i-test.true)

pub loop-i-preserved : goal.loop-i-preserved
loop-i-preserved c =
    let s = c.args.entries.now in
    let i = c.loop-i.i in
    let none : i ≤ place_of (get_or s i 0) s = omega (arith, c.loop-j.invariant) in
    bad-next s i c.loop-i.invariant c.loop-i-test.true
    (fine s i (omega (arith, c.if-entries-from.false, c.from.ensures)) none)

pub returns-after-loop-i : goal.returns-after-loop-i
returns-after-loop-i c = sym (bad-none _ c.loop-i.i c.loop-i.invariant (omega arith)) ∙ omega arith
