use Rattle.std.proofs.Common.{rules, Err, ◌≡◌, length}
use Rattle.answers.specs.declared.Refusal.TheVariants.{RoomLength}
use Rattle.hexadecimal.specs.Hex.{Spelling}
use Rattle.hexadecimal.proofs.Hexes.{word-refused, word-is}
use Rattle.hexadecimal.proofs.show.Goals as goal

pub returns-in_err-spell : goal.returns-in_err-spell
returns-in_err-spell c =
    let some : length c.args.s.now ≡ 0 → ⊥ = search rules in
    let why : c.from_residual.result ≡ Err RoomLength = search rules in
    let six : Spelling 6 c.args.s.now c.args.room.now c.spell.new.room = search rules in
    rw why (word-refused _ _ some six)

pub returns : goal.returns
returns c =
    let some : length c.args.s.now ≡ 0 → ⊥ = search rules in
    let done : Spelling 0 c.args.s.now c.args.room.now c.spell.new.room = search rules in
    word-is _ _ some done
