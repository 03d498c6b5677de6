use Rattle.std.proofs.Common.{◌≡◌}
use lib.ListN.{drop}
use Rattle.hexadecimal.specs.Hex.{taken_in}
use Rattle.hexadecimal.proofs.take_in.Given as goal

abbrev pub invariant-loop-b : goal.invariant-loop-b
invariant-loop-b l =
    taken_in (drop l.b-index l.text) (record { hex = l.read; room = l.room })
    ≡ taken_in l.text (record { hex = l.initial.read; room = l.initial.room })
