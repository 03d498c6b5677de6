-- A block: a number of 128 bits, held in the code as two halves of 64.
use Rattle.std.specs.Prelude.{ℕ, ◌+◌, ◌*◌, ◌/◌, ◌%◌, ◌^◌, List, take, drop}
use Rattle.std.proofs.lemmas.List.Edits.{sets}
use Rattle.words.specs.declared.Block.{Block}
use Rattle.words.specs.Bytes.{number, bytes, filled, pad}

-- the number of a block
unfoldable pub value : Block → ℕ
value b = b.hi * 2 ^ 64 + b.lo

-- and back: the block of a number below 2 ^ 128
unfoldable pub halves : ℕ → Block
halves x = record { lo = x % 2 ^ 64; hi = x / 2 ^ 64 }

-- the n bytes of s from place at on, as many as are there
abbrev pub part : List ℕ → ℕ → ℕ → List ℕ
part s at n = take n (drop at s)

-- the number of two of them; what is not there reads as 0
abbrev pub two : List ℕ → ℕ → ℕ
two s at = number (part s at 2)

-- the number of at most 16 of them; what is not there reads as 0
unfoldable pub loaded : List ℕ → ℕ → ℕ → ℕ
loaded s at n = number (filled 0 16 (part s at n))

-- the same with Pad
unfoldable pub loaded_pad : List ℕ → ℕ → ℕ → ℕ
loaded_pad s at n = number (pad (part s at n))

-- s with the first n of the 16 bytes of x from place at on; what would lie past the end is not written
unfoldable pub stored : List ℕ → ℕ → ℕ → ℕ → List ℕ
stored s at n x = sets s at (take n (bytes 16 x))
