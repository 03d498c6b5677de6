use Rattle.std.proofs.Common.{◌≡◌, ◌∙◌, arith, length-set}
use Rattle.words.specs.Words.{words}
use Rattle.words.proofs.Lists.{fill-next, fill_end}
use Rattle.blake.proofs.Hashing.{word-is}
use Rattle.blake.proofs.words_in.Goals as goal

pub loop-i-preserved : goal.loop-i-preserved
loop-i-preserved c =
    let l = c.loop-i in
    let e = word-is c.args.s.now (λ k. omega (arith, c.type_inv.s k)) l.i (omega arith) c.load.ensures in
    (length-set l.m l.i _ ∙ l.invariant.0, fill-next _ 0 l.m l.i _ (omega arith) l.invariant.1 e)

pub returns : goal.returns
unfolding words
returns c =
    let l = c.loop-i in
    let e : l.i ≡ 16 = omega arith in
    fill_end _ 0 l.m 16 l.invariant.0 (rw e at l.invariant.1)
