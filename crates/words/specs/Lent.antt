-- Memory that is lent, and parts of it.
use Rattle.std.specs.Prelude.{◌≡◌, ℕ, ◌+◌, List}
use Rattle.std.specs.Borrow.{Bor}
use Rattle.words.specs.Block.{part}

-- where it starts, as the language has it (a block of memory and a place in that), and its bytes
pub record Lent : Type 0 where
  pub start : ℕ × ℕ
  pub bytes : List ℕ

-- what a slice refers to
abbrev pub lent : Bor (List ℕ) → Lent
lent s = record { start = s.ref_ptr; bytes = s.now }

-- the n bytes of it from place at on, themselves and no copy
abbrev pub within : Lent → ℕ → ℕ → Lent
within s at n = record { start = (s.start.0, s.start.1 + at); bytes = part s.bytes at n }

-- the first n, or all
abbrev pub first : Lent → ℕ → Lent
first s n = within s 0 n

abbrev pub First : Bor (List ℕ) → Bor (List ℕ) → ℕ → Type 0
First r s n = lent r ≡ first (lent s) n
