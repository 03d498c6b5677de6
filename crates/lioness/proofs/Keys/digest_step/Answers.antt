use Rattle.std.proofs.Common.{length, ap, refl, sym, ◌∙◌, arith, length-take-le}
use Rattle.lioness.specs.Steps.{number_of_step}
use Rattle.lioness.proofs.Steps.{digest-key-is, digest-step-is}
use Rattle.lioness.proofs.Keys.digest_step.Goals as goal

pub slice_bounds-add-end-4 : goal.slice_bounds-add-end-4
slice_bounds-add-end-4 c = sym (length-take-le 32 c.args.block.now (omega arith))

pub returns : goal.returns
returns c =
    let a = c.args in
    let j = number_of_step a.step in
    let key = a.self.now.key.now in
    let iv = a.self.now.iv.now in
    let k = c.key_part.ensures in
    let i = c.iv_part.ensures in
    let hk = ap length (sym k.part) ∙ k.len in
    let hi = ap length (sym i.part) ∙ i.len in
    digest-step-is j key iv hk hi a.block.now c.requires.0 c.requires.1 _ _ _ _ _
    (digest-key-is j key iv hk hi _ _ _ _ k.part i.part c.add.ensures c.add-2.ensures) refl c.digest.ensures
    c.add-3.ensures
