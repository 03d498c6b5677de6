use Rattle.std.proofs.Common.{refl, Some, None, Ok, ◌≡◌, ◌∙◌, rules}
use Rattle.pack.proofs.Told.{told-card, told-done, told-bad}
use Rattle.vespruldo.proofs.structs.PackCard.of.Goals as goal

pub returns-in-Ok-Some : goal.returns-in-Ok-Some
returns-in-Ok-Some c =
    let e : c.args.read.0 ≡ Ok (Some c.in-Ok-Some.card) = search rules in
    told-card refl c.in-Ok-Some.card e c.number.ensures

pub returns-in-Ok-None : goal.returns-in-Ok-None
returns-in-Ok-None c =
    let e : c.args.read.0 ≡ Ok None = search rules in
    told-done refl e

pub returns-in-Err : goal.returns-in-Err
returns-in-Err c =
    told-bad refl c.in-Err.bad c.in-Err.is (c.number-in-Err.ensures ∙ c.refusal.ensures)
    c.entry.ensures
