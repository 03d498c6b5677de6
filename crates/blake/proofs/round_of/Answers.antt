use mathlib.Core.Path.{ap}
use native.Mathlib.Omega.{arith}
use Rattle.std.proofs.Common.{◌≡◌, ◌%◌, length, rules}
use Rattle.words.proofs.Squares.{squared-is}
use Rattle.blake.specs.Blake.{mixing, round}
use Rattle.blake.proofs.round_of.Goals as goal

pub returns : goal.returns
unfolding round
returns c =
    let m = c.args.m.now in
    let r = c.args.r in
    let long : length c.args.v.now ≡ 16 = search rules in
    squared-is (mixing m r) (λ n. mixing m r (n % 8)) (λ n h. ap (mixing m r) (omega arith)) _ _ long c.square.ensures
