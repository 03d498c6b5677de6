-- What a draw answers, as its promise says it: with 9 "drawer unchanged; the bytes answered are all 0".
use Rattle.std.specs.Prelude.{ℕ, List, replicate, Result, Ok, Err}
use Rattle.answers.specs.declared.Refusal.{Refusal}
use Rattle.drawer.specs.declared.Drawer.{Drawer}
use Rattle.drawer.specs.declared.Drawn.{Drawn}

-- the bytes, n of them
abbrev pub bytes_of : (n : ℕ) → Result (Drawn n) Refusal → List ℕ
bytes_of n (Ok drawn) = drawn.bytes
bytes_of n (Err why) = replicate n 0

-- the drawer that is handed back, of a draw from d
abbrev pub next_of : (n : ℕ) → Drawer → Result (Drawn n) Refusal → Drawer
next_of n d (Ok drawn) = drawn.next
next_of n d (Err why) = d
