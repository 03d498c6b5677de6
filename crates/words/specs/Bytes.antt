-- Lists of bytes, their numbers and their sums.
use Rattle.std.specs.Prelude.{ℕ, zero, suc, ◌+◌, ◌*◌, ◌/◌, ◌%◌, ◌<◌, List, [], ◌∷◌, ◌++◌, length, get_or, take, drop}
use Rattle.std.specs.Prelude.{replicate}
use Rattle.std.specs.Int.Bits.{bit_xor}

-- each element is a byte (past the end get_or gives 0)
abbrev pub Bytes : List ℕ → Type 0
Bytes s = (j : ℕ) → get_or s j 0 < 256

-- "byte j .. holds bits 8j to 8j+7, and bit 0 is the least significant"
unfoldable pub number : List ℕ → ℕ
number [] = 0
number (b ∷ s) = number s * 256 + b

-- and back: the n low bytes of x
unfoldable pub bytes : ℕ → ℕ → List ℕ
bytes zero x = []
bytes (suc n) x = x % 256 ∷ bytes n (x / 256)

-- n bytes: s as far as it goes, then one byte t, then zeros
unfoldable pub filled : ℕ → ℕ → List ℕ → List ℕ
filled t zero s = []
filled t (suc n) [] = t ∷ replicate n 0
filled t (suc n) (b ∷ s) = b ∷ filled t n s

-- "Pad leaves a full block; a shorter one gets a single 1 bit above its top bit, then zeros"
abbrev pub pad : List ℕ → List ℕ
pad s = filled 1 16 s

-- s plus t, byte by byte by exclusive or, as far as t goes
unfoldable pub plus : List ℕ → List ℕ → List ℕ
plus [] t = []
plus (b ∷ s) [] = b ∷ s
plus (b ∷ s) (c ∷ t) = bit_xor b c ∷ plus s t

-- s with t added from place at on
unfoldable pub plus_at : ℕ → List ℕ → List ℕ → List ℕ
plus_at at s t = take at s ++ plus (drop at s) t

-- room with the bytes of out in front; "the rest of longer room keeps its bytes"
unfoldable pub over : List ℕ → List ℕ → List ℕ
over out room = out ++ drop (length out) room
