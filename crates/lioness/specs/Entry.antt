-- LIONESS of ChaCha20 and BLAKE2b, and what the entry points answer.
use Rattle.std.specs.Prelude.{ℕ, ◌≡◌, not, List, [], ◌∷◌, eqb, ltb, length}
use Rattle.answers.specs.Answers.{Row, Answer, answered, answer}
use Rattle.chacha.specs.ChaCha.{stream}
use Rattle.blake.specs.Blake.{digest}
use Rattle.lioness.specs.Lioness.{steps}

-- ChaCha20, "counter from 0"
abbrev pub chacha : List ℕ → List ℕ → List ℕ → List ℕ
chacha key nonce text = stream key nonce 0 text

-- "the 64-byte BLAKE2b digest"
abbrev pub blake : List ℕ → List ℕ → List ℕ
blake key text = digest key text 64

-- of the lengths: 1 "key has a wrong length", 2 "nonce or iv has a wrong length", 4 "text or block length not allowed"
abbrev pub rows : ℕ → ℕ → ℕ → List Row
rows key iv block =
    record { applies = not (eqb key 128); number = 1 }
    ∷ record { applies = not (eqb iv 48); number = 2 }
    ∷ record { applies = ltb block 33; number = 4 }
    ∷ record { applies = ltb 1048608 block; number = 4 }
    ∷ []

-- the number that is answered, and the bytes of the block then, after four steps in this order
unfoldable pub ordered : ℕ → ℕ → ℕ → ℕ → List ℕ → List ℕ → List ℕ → Answer (List ℕ)
ordered a b c d key iv block =
    answer (rows (length key) (length iv) (length block)) (steps chacha blake key iv a b c d block) block

abbrev pub enciphering : List ℕ → List ℕ → List ℕ → Answer (List ℕ)
enciphering key iv block = ordered 1 2 3 4 key iv block

abbrev pub Enciphering : ℕ → List ℕ → List ℕ → List ℕ → List ℕ → Type 0
Enciphering r key iv block block' = answered r block' ≡ enciphering key iv block

abbrev pub deciphering : List ℕ → List ℕ → List ℕ → Answer (List ℕ)
deciphering key iv block = ordered 4 3 2 1 key iv block

abbrev pub Deciphering : ℕ → List ℕ → List ℕ → List ℕ → List ℕ → Type 0
Deciphering r key iv block block' = answered r block' ≡ deciphering key iv block
