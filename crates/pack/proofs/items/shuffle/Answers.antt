use Rattle.std.proofs.Common.{arith, rules, refl, Err, ◌≡◌, ◌∙◌}
use borrow.Author.Tests.{lt-ltb, le-ltb}
use Rattle.pack.proofs.Steps.{shuffle-ends, entries-are, shuffle-bad, shuffle-finds}
use Rattle.pack.proofs.Steps.{shuffle-over}
use Rattle.pack.proofs.items.shuffle.Goals as goal

pub returns-in_err-length : goal.returns-in_err-length
returns-in_err-length c =
    let e : c.from_residual.result ≡ Err c.in_err-length.field-0.0 = search rules in
    rw e (c.in_err-length.ensures.1 ∙ shuffle-ends _ _ _ _ refl c.in_err-length.ensures.0)

pub returns-in-Some : goal.returns-in-Some
returns-in-Some c =
    let a = c.args in
    let i = c.in_ok-length.ensures in
    let among = entries-are a.pack.now a.words a.at a.place refl i.0 i.1 in
    shuffle-bad a.pack.now a.words a.at a.place refl i.0 i.1 c.in-Some.ensures.0
    (omega (arith, c.in-Some.ensures.1, among))

pub returns-then-place-eq0 : goal.returns-then-place-eq0
returns-then-place-eq0 c =
    let a = c.args in
    let i = c.in_ok-length.ensures in
    let all = entries-are a.pack.now a.words a.at a.place refl i.0 i.1 in
    shuffle-finds a.pack.now a.words a.at a.place refl i.0 i.1 refl (omega (arith, c.in_default.ensures, all))
    c.if-place-eq0.true

pub returns-then-end-pack : goal.returns-then-end-pack
returns-then-end-pack c =
    let a = c.args in
    let i = c.in_ok-length.ensures in
    let all = entries-are a.pack.now a.words a.at a.place refl i.0 i.1 in
    shuffle-over a.pack.now a.words a.at a.place refl i.0 i.1 refl (omega (arith, c.in_default.ensures, all))
    c.if-place-eq0.false (rw (lt-ltb _ _ c.if-end-pack.true) refl)

pub returns : goal.returns
returns c =
    let a = c.args in
    let i = c.in_ok-length.ensures in
    let all = entries-are a.pack.now a.words a.at a.place refl i.0 i.1 in
    shuffle-over a.pack.now a.words a.at a.place refl i.0 i.1 refl (omega (arith, c.in_default.ensures, all))
    c.if-place-eq0.false (rw (le-ltb _ _ c.if-end-pack.false) refl)
