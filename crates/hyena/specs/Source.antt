-- What the code of HyENA works on.
use Rattle.std.specs.Prelude.{ℕ, List, Option, Some, None}
use Rattle.std.specs.Borrow.{Bor}

-- the text that it is lent or, in place, where it is lent none, what the room holds
abbrev pub source : Option (Bor (List ℕ)) → List ℕ → List ℕ
source (Some text) room = text.now
source None room = room
