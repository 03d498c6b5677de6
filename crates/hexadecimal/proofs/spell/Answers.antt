use Rattle.std.proofs.Common.{rules, arith, refl, ◌∙◌, ◌≡◌, ◌<◌, ◌≤◌, ◌/◌, length}
use Rattle.answers.specs.Told.{told}
use Rattle.hexadecimal.proofs.Hexes.{write-next, write-end, write-first, spell-refused, spell-done}
use Rattle.hexadecimal.proofs.spell.Goals as goal

pub returns-in_err-refuse-clause-answer : goal.returns-in_err-refuse-clause-answer
returns-in_err-refuse-clause-answer c =
    let six : told c.from_residual.result ≡ 6 = search rules in
    let h : length c.args.room.now / 2 < length c.args.s.now = search rules in
    spell-refused _ _ six h

pub loop-i-init : goal.loop-i-init
loop-i-init c =
    let h : length c.args.s.now ≤ length c.args.room.now / 2 = search rules in
    write-first _ _ h

pub loop-i-preserved : goal.loop-i-preserved
loop-i-preserved c =
    let h : length c.args.s.now ≤ length c.args.room.now / 2 = search rules in
    write-next c.args.s.now c.loop-i.room _ _ _ c.loop-i.i c.loop-i-test.true (omega (arith, h))
    (c.copy_from_slice.ensures.after ∙ c.digits.ensures) refl
    c.loop-i.invariant

pub returns-clause-answer : goal.returns-clause-answer
returns-clause-answer c =
    let h : length c.args.s.now ≤ length c.args.room.now / 2 = search rules in
    spell-done _ _ h (write-end c.args.s.now c.loop-i.room _ c.loop-i.i (omega arith) c.loop-i.invariant)
