use Rattle.std.proofs.Common.{rules, tests, ◌∙◌}
use Rattle.std.proofs.lemmas.Iterator.{YieldsList-from_slice}
use Rattle.lengths.proofs.Fold.{adds_up}
use Rattle.lengths.proofs.add_up.Goals as goal

pub returns : goal.returns
returns c =
    let a = c.args in
    c.eq.ensures
    ∙ adds_up _ _ _ (λ f h left n rest k. search (rules, tests)) (λ f h left n k. search (rules, tests))
    _ a.whole c.try_fold.result a.lengths.now c.iter.result c.try_fold.new.self
    (YieldsList-from_slice a.lengths.now c.iter.ensures.rest) c.try_fold.ensures.ran
