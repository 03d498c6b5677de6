use Rattle.std.proofs.Common.{rules, ◌≡◌, length}
use Rattle.hexadecimal.proofs.Hexes.{dash-none, dash-one}
use Rattle.hexadecimal.proofs.dash.Goals as goal

pub returns-in_default : goal.returns-in_default
returns-in_default c =
    let none : length c.args.room.now ≡ 0 = search rules in
    dash-none _ none

pub returns : goal.returns
returns c =
    let some : length c.args.room.now ≡ 0 → ⊥ = search rules in
    dash-one _ some
