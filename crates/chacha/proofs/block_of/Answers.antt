use Rattle.std.proofs.Common.{ℕ, ◌*◌, sym, refl, ap, ◌∙◌, arith}
use lib.Seq.{sets}
use Rattle.words.specs.declared.Block.{Block}
use Rattle.words.specs.Block.{value, stored}
use Rattle.words.specs.Bytes.{bytes}
use Rattle.words.proofs.WordLists.{stored-word, words-next, words-end}
use Rattle.chacha.specs.ChaCha.{sums}
use Rattle.chacha.proofs.Rounds.{sum-at, length-sums, block-first, block-is}
use Rattle.chacha.proofs.block_of.Goals as goal

pub loop-i-init : goal.loop-i-init
loop-i-init c = (refl, block-first _ _)

pub loop-i-preserved : goal.loop-i-preserved
loop-i-preserved c =
    let l = c.loop-i in
    let t = c.rounds_of-t.result in
    let s = c.args.s in
    let e = c.from.ensures ∙ sym (sum-at s t l.i (omega arith)) in (
      c.store.auto.s ∙ l.invariant.0,
      words-next 4 l.i l.out _ _ (sums s t) (omega (arith, length-sums s t))
          (c.store.ensures ∙ ap (λ (b : Block). stored l.out (4 * l.i) 4 (value b)) c.from-in-loop-i.ensures
          ∙ stored-word l.out (4 * l.i) 4 _ (omega arith)
          ∙ ap (λ (x : ℕ). sets l.out (4 * l.i) (bytes 4 x)) e) l.invariant.1,
    )

pub returns : goal.returns
returns c =
    let l = c.loop-i in
    block-is c.args.s _ _ c.rounds_of-t.ensures
    (words-end 4 l.i _ _ (sums c.args.s c.rounds_of-t.result)
    (omega (arith, length-sums c.args.s c.rounds_of-t.result)) l.invariant.1)
