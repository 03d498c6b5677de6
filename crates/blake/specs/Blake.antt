-- BLAKE2b, as RFC 7693 fixes it; the numbers of its sections stand before each part. Words have 64 bits; a vector is a
-- list of sixteen of them, a chain value a list of eight.
use Rattle.std.specs.Prelude.{ℕ, zero, suc, ◌+◌, ◌-◌, ◌*◌, ◌/◌, ◌%◌, ◌^◌, Bool, true, false, cond, List, [], ◌∷◌, ◌++◌}
use Rattle.std.specs.Prelude.{length, take, drop, bit_xor, slice_index, slice_set}
use Rattle.words.specs.Bytes.{filled}
use Rattle.words.specs.Digits.{sum_mod, rotr, tab}
use Rattle.words.specs.Square.{square}
use Rattle.words.specs.Iterate.{iterate}
use Rattle.words.specs.Words.{words, unwords}

-- ---- 2.6, the initialization vector

unfoldable pub iv : List ℕ
iv =
    0x6a09e667f3bcc908 ∷ 0xbb67ae8584caa73b ∷ 0x3c6ef372fe94f82b ∷ 0xa54ff53a5f1d36f1
    ∷ 0x510e527fade682d1 ∷ 0x9b05688c2b3e6c1f ∷ 0x1f83d9abfb41bd6b ∷ 0x5be0cd19137e2179 ∷ []

-- ---- 2.7, the message schedule: ten rows of sixteen places; rounds 10 and 11 take rows 0 and 1 again

unfoldable pub sigma_table : List ℕ
sigma_table =
    0 ∷ 1 ∷ 2 ∷ 3 ∷ 4 ∷ 5 ∷ 6 ∷ 7 ∷ 8 ∷ 9 ∷ 10 ∷ 11 ∷ 12 ∷ 13 ∷ 14 ∷ 15
    ∷ 14 ∷ 10 ∷ 4 ∷ 8 ∷ 9 ∷ 15 ∷ 13 ∷ 6 ∷ 1 ∷ 12 ∷ 0 ∷ 2 ∷ 11 ∷ 7 ∷ 5 ∷ 3
    ∷ 11 ∷ 8 ∷ 12 ∷ 0 ∷ 5 ∷ 2 ∷ 15 ∷ 13 ∷ 10 ∷ 14 ∷ 3 ∷ 6 ∷ 7 ∷ 1 ∷ 9 ∷ 4
    ∷ 7 ∷ 9 ∷ 3 ∷ 1 ∷ 13 ∷ 12 ∷ 11 ∷ 14 ∷ 2 ∷ 6 ∷ 5 ∷ 10 ∷ 4 ∷ 0 ∷ 15 ∷ 8
    ∷ 9 ∷ 0 ∷ 5 ∷ 7 ∷ 2 ∷ 4 ∷ 10 ∷ 15 ∷ 14 ∷ 1 ∷ 11 ∷ 12 ∷ 6 ∷ 8 ∷ 3 ∷ 13
    ∷ 2 ∷ 12 ∷ 6 ∷ 10 ∷ 0 ∷ 11 ∷ 8 ∷ 3 ∷ 4 ∷ 13 ∷ 7 ∷ 5 ∷ 15 ∷ 14 ∷ 1 ∷ 9
    ∷ 12 ∷ 5 ∷ 1 ∷ 15 ∷ 14 ∷ 13 ∷ 4 ∷ 10 ∷ 0 ∷ 7 ∷ 6 ∷ 3 ∷ 9 ∷ 2 ∷ 8 ∷ 11
    ∷ 13 ∷ 11 ∷ 7 ∷ 14 ∷ 12 ∷ 1 ∷ 3 ∷ 9 ∷ 5 ∷ 0 ∷ 15 ∷ 4 ∷ 8 ∷ 6 ∷ 2 ∷ 10
    ∷ 6 ∷ 15 ∷ 14 ∷ 9 ∷ 11 ∷ 3 ∷ 0 ∷ 8 ∷ 12 ∷ 2 ∷ 13 ∷ 7 ∷ 1 ∷ 4 ∷ 10 ∷ 5
    ∷ 10 ∷ 2 ∷ 8 ∷ 4 ∷ 7 ∷ 6 ∷ 1 ∷ 5 ∷ 15 ∷ 11 ∷ 9 ∷ 14 ∷ 3 ∷ 12 ∷ 13 ∷ 0 ∷ []

-- the place in the message that round r takes its i-th word from
unfoldable pub sigma : ℕ → ℕ → ℕ
sigma r i = slice_index sigma_table (r % 10 * 16 + i)

-- ---- 3.1, the mixing function G: a += b + x; d = (d ^ a) >>> 32; c += d; b = (b ^ c) >>> 24; a += b + y; d = (d ^ a)
-- >>> 16; c += d; b = (b ^ c) >>> 63

unfoldable pub mixed : ℕ → ℕ → ℕ → ℕ → ℕ → ℕ → ℕ × ℕ × ℕ × ℕ
mixed a b c d x y =
    let a₁ = sum_mod 64 (sum_mod 64 a b) x in
    let d₁ = rotr 64 32 (bit_xor d a₁) in
    let c₁ = sum_mod 64 c d₁ in
    let b₁ = rotr 64 24 (bit_xor b c₁) in
    let a₂ = sum_mod 64 (sum_mod 64 a₁ b₁) y in
    let d₂ = rotr 64 16 (bit_xor d₁ a₂) in
    let c₂ = sum_mod 64 c₁ d₂ in
    let b₂ = rotr 64 63 (bit_xor b₁ c₂) in
    (a₂, b₂, c₂, d₂)

-- the word of the message m that round r takes i-th
unfoldable pub word_at : List ℕ → ℕ → ℕ → ℕ
word_at m r i = slice_index m (sigma r i)

-- the n-th mixing of round r takes the words 2n and 2n + 1
unfoldable pub mixing : List ℕ → ℕ → ℕ → ℕ → ℕ → ℕ → ℕ → ℕ × ℕ × ℕ × ℕ
mixing m r n a b c d = mixed a b c d (word_at m r (2 * n)) (word_at m r (2 * n + 1))

-- ---- 3.2, the compression function F

-- round r on the message m: the four columns, then the four diagonals
unfoldable pub round : List ℕ → ℕ → List ℕ → List ℕ
round m r v = square (λ q. q.0) (λ q. q.1) (λ q. q.2) (λ q. q.3) (mixing m r) v

-- twelve rounds
abbrev pub rounds : List ℕ → List ℕ → List ℕ
rounds m v = iterate (round m) 12 v

-- the vector at the start: the chain value and the initialization vector, with the byte count t in two words and, for
-- the last block, all bits of one word inverted
unfoldable pub vector : List ℕ → ℕ → Bool → List ℕ
vector h t last =
    h ++ (slice_index iv 0 ∷ slice_index iv 1 ∷ slice_index iv 2 ∷ slice_index iv 3
    ∷ bit_xor (slice_index iv 4) (t % 2 ^ 64) ∷ bit_xor (slice_index iv 5) (t / 2 ^ 64)
    ∷ cond last (bit_xor (slice_index iv 6) 0xFFFFFFFFFFFFFFFF) (slice_index iv 6) ∷ slice_index iv 7 ∷ [])

-- the chain value with both halves of a vector added
unfoldable pub folded : List ℕ → List ℕ → List ℕ
folded h v = tab (λ i. bit_xor (bit_xor (slice_index h i) (slice_index v i)) (slice_index v (i + 8))) 0 8

-- a block of 128 bytes, sixteen words
unfoldable pub compress : List ℕ → List ℕ → ℕ → Bool → List ℕ
compress h block t last = folded h (rounds (words 8 16 block) (vector h t last))

-- ---- 3.3, padding the data and computing the digest

-- zeros up to a block
abbrev pub padded : List ℕ → List ℕ
padded d = filled 0 128 d

-- 2.5 and 3.3, the first parameter word: key length kk, digest length nn, fanout and depth 1
unfoldable pub parameter : ℕ → ℕ → ℕ
parameter kk nn = bit_xor (bit_xor 0x01010000 (kk * 256)) nn

unfoldable pub start_chain : ℕ → ℕ → List ℕ
start_chain kk nn = slice_set iv 0 (bit_xor (slice_index iv 0) (parameter kk nn))

-- k blocks of the data d, before which t bytes stood, and then the last, padded
unfoldable pub absorbed : ℕ → List ℕ → ℕ → List ℕ → List ℕ
absorbed zero h t d = compress h (padded d) (t + length d) true
absorbed (suc k) h t d = absorbed k (compress h (take 128 d) (t + 128) false) (t + 128) (drop 128 d)

-- a key is a block of its own before the text; no key is none
unfoldable pub with_key : List ℕ → List ℕ → List ℕ
with_key [] text = text
with_key (b ∷ key) text = padded (b ∷ key) ++ text

-- the last block has 1 to 128 bytes of the data, or none where there is no data
unfoldable pub hashed : List ℕ → List ℕ → ℕ → List ℕ
hashed key text nn =
    let d = with_key key text in
    absorbed ((length d - 1) / 128) (start_chain (length key) nn) 0 d

-- its first nn bytes
unfoldable pub digest : List ℕ → List ℕ → ℕ → List ℕ
digest key text nn = take nn (unwords 8 (hashed key text nn))
