-- Draws one after another, and the numbers they hand out: "Draws taken one after another from one start, each on the
-- drawer the last one handed back".
use Rattle.std.specs.Prelude.{ℕ, ◌*◌, cond, List, [], ◌∷◌, ◌++◌, eqb}
use Rattle.words.specs.Block.{part}
use Rattle.words.specs.Digits.{tab}
use Rattle.answers.specs.Answers.{Answer}
use Rattle.drawer.specs.declared.Drawer.{Drawer}
use Rattle.drawer.specs.Drawer.{Use, counts, Handed, drawing}

-- the numbers of 12 bytes that an answer hands out, one for each count, from the front: "a refused draw hands out no
-- number, and its zero bytes don't count as one."
abbrev pub numbers : Use → Answer Handed → List (List ℕ)
numbers u a = cond (eqb a.number 0) (tab (λ i. part a.outcome.bytes (12 * i) 12) 0 (counts u)) []

-- those that draws hand out, one after another
unfoldable pub handed_out : List Use → Drawer → List (List ℕ)
handed_out [] d = []
handed_out (u ∷ us) d = numbers u (drawing u d) ++ handed_out us (drawing u d).outcome.next

-- the drawer that the last one handed back
unfoldable pub after : List Use → Drawer → Drawer
after [] d = d
after (u ∷ us) d = after us (drawing u d).outcome.next
