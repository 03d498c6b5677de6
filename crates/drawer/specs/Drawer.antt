-- The drawer of nonces, and what its entry points answer.
use Rattle.std.specs.Prelude.{◌≡◌, ℕ, ◌+◌, ◌-◌, ◌^◌, List, [], ◌∷◌, ◌++◌, ltb, length, replicate}
use Rattle.words.specs.Bytes.{bytes}
use Rattle.answers.specs.Answers.{Row, Answer, answered, answer}
use Rattle.drawer.specs.declared.Drawer.{Drawer}

-- "A drawer is a reader number (32 bits) and a count (64 bits), both given at its start."
abbrev pub started : ℕ → ℕ → Drawer
started reader count = record { reader = reader; count = count }

-- "A draw answers 12 bytes: number, then count, both little-endian;"
unfoldable pub nonce : Drawer → List ℕ
nonce d = bytes 4 d.reader ++ bytes 8 d.count

-- how many counts are left: "At count 2^64−1 a draw is refused"
abbrev pub remaining : Drawer → ℕ
remaining d = 2 ^ 64 - 1 - d.count

-- ---- what is drawn, by how many counts it takes

pub data Use : Type 0 where
  for_nonce : Use
  for_iv : Use

-- "the count grows by one." "An iv is one draw"
abbrev pub counts : Use → ℕ
counts for_nonce = 1
counts for_iv = 1

-- its bytes: an iv is its draw "written four times."
abbrev pub written : Use → Drawer → List ℕ
written for_nonce d = nonce d
written for_iv d = nonce d ++ nonce d ++ nonce d ++ nonce d

-- 9 "drawer spent": fewer counts are left than it takes, n
abbrev pub rows : ℕ → Drawer → List Row
rows n d = record { applies = ltb (remaining d) n; number = 9 } ∷ []

-- the drawer that is handed back, n counts on
abbrev pub moved : ℕ → Drawer → Drawer
moved n d = started d.reader (d.count + n)

-- the bytes that are answered, and the drawer that is handed back
pub record Handed : Type 0 where
  pub bytes : List ℕ
  pub next : Drawer

-- what a draw answers; with 9 "drawer unchanged; the bytes answered are all 0"
unfoldable pub drawing : Use → Drawer → Answer Handed
drawing u d =
    answer (rows (counts u) d) (record { bytes = written u d; next = moved (counts u) d })
    (record { bytes = replicate (length (written u d)) 0; next = d })

-- the promise: r, the bytes and the next drawer are answered
abbrev pub Drawing : Use → ℕ → Drawer → List ℕ → Drawer → Type 0
Drawing u r d bytes next = answered r (record { bytes = bytes; next = next }) ≡ drawing u d
