-- Lists of bytes as lists of words of w bytes each, little-endian, and back.
use Rattle.std.specs.Prelude.{ℕ, ◌*◌, List, [], ◌∷◌, ◌++◌}
use Rattle.words.specs.Block.{part}
use Rattle.words.specs.Bytes.{number, bytes}
use Rattle.words.specs.Digits.{tab}

-- the first n words of s
unfoldable pub words : ℕ → ℕ → List ℕ → List ℕ
words w n s = tab (λ j. number (part s (w * j) w)) 0 n

-- the bytes of the words xs
unfoldable pub unwords : ℕ → List ℕ → List ℕ
unwords w [] = []
unwords w (x ∷ xs) = bytes w x ++ unwords w xs
