use mathlib.Core.Path.{◌≡◌}
use Rattle.mode.specs.Hyena.{data_at}
use Rattle.hyena_blocks.specs.Steps.{enciphers, held_y, read_y}
use Rattle.hyena.proofs.all_data.Given as goal

abbrev pub invariant-loop-i : goal.invariant-loop-i
invariant-loop-i l = l.s ≡ held_y (data_at (enciphers l.e) l.data (read_y l.initial.s) l.i)
