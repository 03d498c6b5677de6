use Rattle.std.proofs.Common.{◌≡◌, ◌*◌, length, get_or, ap, ◌∙◌, arith, rules}
use Rattle.words.specs.declared.Block.{Block}
use Rattle.words.specs.Block.{value, stored}
use Rattle.words.proofs.WordLists.{stored-word, words-next, words-end}
use Rattle.blake.proofs.put_words.Goals as goal
use Rattle.blake.proofs.put_words.Goals.{Start}

long : (c : Start) → length c.args.h.now ≡ 8
long c = search rules

pub loop-i-preserved : goal.loop-i-preserved
loop-i-preserved c =
    let l = c.loop-i in
    let h = c.args.h.now in (
      c.store.auto.s ∙ l.invariant.0,
      words-next 8 l.i l.room _ _ h (omega (arith, long (goal.at.loop-i-preserved c).Start))
          (c.store.ensures ∙ ap (λ (b : Block). stored l.room (8 * l.i) 8 (value b)) c.from.ensures
          ∙ stored-word l.room (8 * l.i) 8 (get_or h l.i 0) (omega arith)) l.invariant.1,
    )

pub returns : goal.returns
returns c =
    let l = c.loop-i in
    words-end 8 l.i l.room _ c.args.h.now (omega (arith, long (goal.at.returns c).Start)) l.invariant.1
