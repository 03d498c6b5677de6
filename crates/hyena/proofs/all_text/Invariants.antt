use Rattle.mode.specs.Hyena.{text_at}
use Rattle.hyena_blocks.specs.Steps.{enciphers, read_x}
use Rattle.hyena.specs.Source.{source}
use Rattle.hyena.proofs.Steps.{Held}
use Rattle.hyena.proofs.all_text.Given as goal

abbrev pub invariant-loop-i : goal.invariant-loop-i
invariant-loop-i l =
    Held (text_at (enciphers l.e) l.opening (source l.text l.initial.room) (read_x l.initial.s) l.i)
    l.initial.room l.s l.room
