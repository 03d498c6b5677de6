-- What GIFT-128's entry points answer, and its round keys worked out for many blocks.
use Rattle.std.specs.Prelude.{ℕ, ◌≡◌, Bool, true, false, not, List, [], ◌∷◌, eqb, length, get_or}
use Rattle.words.specs.Block.{value, halves}
use Rattle.words.specs.Bytes.{number, bytes}
use Rattle.words.specs.Digits.{tab}
use Rattle.answers.specs.Answers.{Row, Answer, answered, answer}
use Rattle.gift.specs.declared.RoundKeys.{RoundKeys}
use Rattle.gift.specs.Gift.{place, round_key, forty, cipher}

-- the places that bits 0, 1, .., 127 move to
abbrev pub place_table : List ℕ
place_table = tab place 0 128

-- ---- with the round keys worked out, each with its round constant

-- those of the key k
unfoldable pub round_keys : ℕ → RoundKeys
round_keys k = record { rounds = tab (λ r. halves (round_key k r)) 0 40 }

-- that of round r
unfoldable pub round_key_in : RoundKeys → ℕ → ℕ
round_key_in a r = value (get_or a.rounds r (halves 0))

-- forty rounds that add them, each way
unfoldable pub enciphers : RoundKeys → ℕ → ℕ
enciphers a x = forty false (round_key_in a) x

unfoldable pub deciphers : RoundKeys → ℕ → ℕ
deciphers a x = forty true (round_key_in a) x

-- ---- on byte buffers; of their lengths: 1 "key has a wrong length", 4 "text or block length not allowed"

abbrev pub rows : ℕ → ℕ → List Row
rows key block =
    record { applies = not (eqb key 16); number = 1 } ∷ record { applies = not (eqb block 16); number = 4 } ∷ []

-- the number that is answered, and the bytes of the block then
unfoldable pub crypting : Bool → List ℕ → List ℕ → Answer (List ℕ)
crypting back key block =
    answer (rows (length key) (length block)) (bytes 16 (cipher back (number key) (number block))) block

abbrev pub enciphering : List ℕ → List ℕ → Answer (List ℕ)
enciphering key block = crypting false key block

abbrev pub Enciphering : ℕ → List ℕ → List ℕ → List ℕ → Type 0
Enciphering r key block block' = answered r block' ≡ enciphering key block

abbrev pub deciphering : List ℕ → List ℕ → Answer (List ℕ)
deciphering key block = crypting true key block

abbrev pub Deciphering : ℕ → List ℕ → List ℕ → List ℕ → Type 0
Deciphering r key block block' = answered r block' ≡ deciphering key block
