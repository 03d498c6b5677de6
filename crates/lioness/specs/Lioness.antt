-- LIONESS, as document 01's section of that name fixes it; the sentences in quotes are its own. It stands over any
-- stream S (of key, nonce and text) and any hash H (of key and text). Blocks are lists of bytes. "Sums here are by
-- exclusive or."
use Rattle.std.specs.Prelude.{ℕ, ◌-◌, ◌*◌, ◌%◌, cond, List, ◌++◌, eqb, take, drop}
use Rattle.words.specs.Block.{part}
use Rattle.words.specs.Bytes.{plus}

-- "The key is k1 to k4 of 32 bytes, the iv is iv1 to iv4 of 12 bytes.": the j-th of n bytes
unfoldable pub piece : ℕ → ℕ → List ℕ → List ℕ
piece n j s = part s (n * (j - 1)) n

-- "L is the first 32 bytes, and the right part R, from byte 32 on"
abbrev pub left : List ℕ → List ℕ
left block = take 32 block

abbrev pub right : List ℕ → List ℕ
right block = drop 32 block

module _ (S : List ℕ → List ℕ → List ℕ → List ℕ) (key iv : List ℕ) where
  -- 1. "R is enciphered by ChaCha20 with key L plus k1 and nonce iv1, counter from 0."
  unfoldable pub stream_step : ℕ → List ℕ → List ℕ
  stream_step j block = left block ++ S (plus (left block) (piece 32 j key)) (piece 12 j iv) (right block)

module _ (H : List ℕ → List ℕ → List ℕ) (key iv : List ℕ) where
  -- 2. "To L add the first 32 bytes of the 64-byte BLAKE2b digest of R under the 44-byte key k2 followed by iv2."
  unfoldable pub digest_step : ℕ → List ℕ → List ℕ
  digest_step j block = plus (left block) (take 32 (H (piece 32 j key ++ piece 12 j iv) (right block))) ++ right block

module _ (S : List ℕ → List ℕ → List ℕ → List ℕ) (H : List ℕ → List ℕ → List ℕ) (key iv : List ℕ) where
  -- "3. As 1 with k3, iv3. 4. As 2 with k4, iv4."
  unfoldable pub step : ℕ → List ℕ → List ℕ
  step j block = cond (eqb (j % 2) 1) (stream_step S key iv j block) (digest_step H key iv j block)

  -- four steps, a the first and d the last; "Deciphering runs 4, 3, 2, 1."
  unfoldable pub steps : ℕ → ℕ → ℕ → ℕ → List ℕ → List ℕ
  steps a b c d block = step d (step c (step b (step a block)))
