use mathlib.Core.Path.{◌≡◌, ap, ◌∙◌, sym}
use Prim.Native.Nat.{◌<◌, ◌-◌, ◌*◌}
use mathlib.Core.Bool.{cond}
use lib.Dec.{eqb}
use lib.ListN.{length}
use borrow.Author.Rules.{rules}
use borrow.Author.Tests.{eq-eqb, ne_eqb}
use native.Mathlib.Omega.{arith}
use Rattle.words.specs.Bytes.{Bytes}
use Rattle.words.proofs.Iterate.{iterate-none}
use Rattle.mode.specs.Hyena.{before, data_at}
use Rattle.hyena_blocks.specs.Steps.{enciphers, held_y, read_y, data_ended}
use Rattle.hyena.proofs.Steps.{data-next, data-end, data-none}
use Rattle.hyena_blocks.proofs.Steps.{held-read_y}
use Rattle.hyena.proofs.all_data.Goals as goal
use Rattle.hyena.proofs.all_data.Goals.{then-last-eq16, else-last-eq16}

pub returns-then-is_empty : goal.returns-then-is_empty
returns-then-is_empty c =
    let a = c.args in
    data-none (enciphers a.e) (read_y a.b) a.«data».now (search rules)
    (c.data_last.ensures ∙ ap (λ d. data_ended a.b 2 d 16) c.from.ensures)

pub loop-i-init : goal.loop-i-init
loop-i-init c =
    let a = c.args in
    held-read_y a.b (omega arith) ∙ ap held_y (sym (iterate-none _ (read_y a.b)))

pub loop-i-preserved : goal.loop-i-preserved
loop-i-preserved c =
    let a = c.args in
    let h : Bytes a.«data».now = λ i. omega (arith, c.type_inv.data i) in
    let t : c.loop-i.i < before a.«data».now = omega arith in
    data-next (enciphers a.e) a.«data».now h (read_y a.b) c.loop-i.i t c.loop-i.invariant
    c.load.ensures c.data_block-s.ensures

pub returns : goal.returns
returns c =
    let a = c.args in
    let h : Bytes a.«data».now = λ i. omega (arith, c.type_inv.data i) in
    let e : c.loop-i.i ≡ before a.«data».now = omega arith in
    let some : length a.«data».now ≡ 0 → ⊥ = search rules in
    let last = length a.«data».now - 16 * before a.«data».now in
    let k : c.if-last-eq16.doublings ≡ cond (eqb last 16) 1 2 = elim c.if-last-eq16.branch [
      | then-last-eq16 w ↦ rw (eq-eqb last 16 w.if-last-eq16.true) w.doublings-is
      | else-last-eq16 w ↦ rw (ne_eqb last 16 w.if-last-eq16.false) w.doublings-is
    ] in
    data-end (enciphers a.e) a.«data».now h (read_y a.b) _ some
    (c.loop-i.invariant ∙ ap (λ i. held_y (data_at (enciphers a.e) a.«data».now (read_y a.b) i)) e)
    k c.load-2.ensures c.data_last-2.ensures
