use Rattle.std.proofs.Common.{rules, tests, ◌∙◌, nat_lt}
use Rattle.std.proofs.lemmas.Iterator.{YieldsList-from_slice}
use Rattle.std.proofs.lemmas.Iterator.Search.{any_from_yields_List}
use Rattle.lengths.proofs.Lengths.{any_above-is}
use Rattle.lengths.proofs.any_above.Goals as goal

pub returns : goal.returns
returns c =
    let a = c.args in
    any_from_yields_List (λ n. nat_lt a.most n) _ _ _ c.any.ensures.ran
    (YieldsList-from_slice a.lengths.now c.iter.ensures.rest) (λ x b q k. search (rules, tests))
    ∙ any_above-is a.most a.lengths.now
