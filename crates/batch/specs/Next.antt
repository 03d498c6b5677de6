-- What a batch answers, as its promise says it.
use Rattle.std.specs.Prelude.{Result, Ok, Err}
use Rattle.answers.specs.declared.Refusal.{Refusal}
use Rattle.drawer.specs.declared.Drawer.{Drawer}

-- the drawer for the next draw; where it is refused, the one that was given
abbrev pub next_of : Drawer → Result Drawer Refusal → Drawer
next_of d (Ok next) = next
next_of d (Err why) = d
