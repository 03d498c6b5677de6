use mathlib.Core.Path.{refl}
use Rattle.std.proofs.Common.{◌≡◌, length, rules}
use Rattle.words.proofs.Squares.{squared-is}
use Rattle.chacha.specs.ChaCha.{quarter, double_round}
use Rattle.chacha.proofs.double_round.Goals as goal

pub returns : goal.returns
unfolding double_round
returns c =
    let long : length c.args.s.now ≡ 16 = search rules in
    squared-is (λ n. quarter) (λ n. quarter) (λ n h. refl) _ _ long c.square.ensures
