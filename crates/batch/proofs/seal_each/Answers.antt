use mathlib.Core.Path.{refl, sym, ap, ◌∙◌}
use native.Mathlib.Omega.{arith}
use borrow.Author.Rules.{rules}
use Rattle.lengths.proofs.Lengths.{next-starts, next_fits, none-next}
use Rattle.batch.specs.Batch.{Sealed}
use Rattle.batch.proofs.Steps.{card-placed, card-asks, goes_on, from_last, one-fewer}
use Rattle.batch.proofs.seal_each.Goals as goal

pub loop-i-init : goal.loop-i-init
loop-i-init c =
    let r = c.requires in
    (omega (arith, r.whole), refl, omega (arith, r.draws-left), r.none-long)

pub overflow_add-end : goal.overflow_add-end
overflow_add-end c =
    let fits = next_fits c.args.lengths.now c.loop-i.i (omega arith) c.loop-i.at c.loop-i.invariant.0 in
    search rules

pub slice_bounds-seal_card-end : goal.slice_bounds-seal_card-end
slice_bounds-seal_card-end c =
    let fits = next_fits c.args.lengths.now c.loop-i.i (omega arith) c.loop-i.at c.loop-i.invariant.0 in
    search rules

pub seal_card-next-requires : goal.seal_card-next-requires
seal_card-next-requires c =
    let a = c.args in
    let lengths = a.lengths.now in
    let fits = next_fits lengths c.loop-i.i (omega arith) c.loop-i.at c.loop-i.invariant.0 in
    let short = none-next lengths c.loop-i.i (omega arith) 1048576 c.loop-i.invariant.3 in
    let p = card-asks a.texts.now c.loop-i.at _ c.loop-i.i c.loop-i.room c.loop-i.tags fits
    (omega (arith, c.requires.room_fits)) (omega (arith, c.requires.tags-16)) in
    (c.requires.key-16, c.requires.data-most, omega (arith, p.0, short.0), omega arith, p.1, p.2)

pub loop-i-preserved : goal.loop-i-preserved
loop-i-preserved c =
    let a = c.args in
    let lengths = a.lengths.now in
    let i = c.loop-i.i in
    let fits = next_fits lengths i (omega arith) c.loop-i.at c.loop-i.invariant.0 in
    let left = one-fewer c.loop-i.next (omega arith) in
    let placed = card-placed a.key.now a.«data».now a.texts.now i c.loop-i.at _ c.loop-i.room c.loop-i.tags
    c.loop-i.next
    c.seal_card-next.ensures in
    let next = ap (λ (s : Sealed). s.next) c.seal_card-next.ensures in (
      next-starts lengths i (omega arith) c.loop-i.at c.loop-i.invariant.0,
      goes_on a.key.now a.«data».now a.texts.now lengths i c.loop-i.at _ (omega arith)
          placed (omega (arith, c.requires.room_fits)) (omega (arith, c.requires.tags-16)) c.loop-i.invariant.1,
      rw next (omega arith),
      (none-next lengths i (omega arith) 1048576 c.loop-i.invariant.3).1,
    )

pub returns : goal.returns
returns c =
    let a = c.args in
    sym (from_last a.key.now a.«data».now a.texts.now a.lengths.now _ c.loop-i.i c.loop-i.at
    (omega arith)) ∙ c.loop-i.invariant.1
