-- A drawer as it is stored in a file.
use Rattle.std.specs.Prelude.{ℕ, ◌-◌, ◌^◌, ◌≡◌, not, List, [], ◌∷◌, ◌++◌}
use Rattle.words.specs.Block.{part}
use Rattle.words.specs.Bytes.{number}
use Rattle.words.specs.Search.{same}
use Rattle.answers.specs.Answers.{Row, Answer, answered, answer}
use Rattle.blake.specs.Blake.{digest}
use Rattle.drawer.specs.declared.Drawer.{Drawer}
use Rattle.drawer.specs.Drawer.{started, nonce}

-- its number and its count as it draws them, then the 32-byte digest of these 12 bytes under no key
unfoldable pub storing : Drawer → List ℕ
storing d = nonce d ++ digest [] (nonce d) 32

-- the drawer that the first 12 bytes of a file are of
abbrev pub drawer_in : List ℕ → Drawer
drawer_in s = started (number (part s 0 4)) (number (part s 4 8))

-- 106, a number of our own, "drawer file damaged": it is not, to the byte, what storing its drawer gives
abbrev pub rows : List ℕ → List Row
rows s = record { applies = not (same s (storing (drawer_in s))); number = 106 } ∷ []

-- the number that is answered, and the drawer; with 106 nothing is left to draw
unfoldable pub loading : List ℕ → Answer Drawer
loading s = answer (rows s) (drawer_in s) (started 0 (2 ^ 64 - 1))

-- the promise: r and the drawer are answered
abbrev pub Loading : ℕ → List ℕ → Drawer → Type 0
Loading r s d = answered r d ≡ loading s
