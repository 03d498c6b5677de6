-- GIFT-128, as document 01's section of that name fixes it; the sentences in quotes are its own.
-- "A block is a number of 128 bits": blocks and key states are numbers below 2 ^ 128. The direction is a Bool, true for
-- the way back: "Deciphering undoes the rounds."
use Rattle.std.specs.Prelude.{ℕ, zero, suc, ◌+◌, ◌-◌, ◌*◌, ◌/◌, ◌%◌, ◌^◌, Bool, true, false, cond, List, [], ◌∷◌, eqb}
use Rattle.std.specs.Prelude.{get_or}
use Rattle.std.specs.Int.Bits.{bit_xor}
use Rattle.words.specs.Digits.{digit, rotr, xsum}
use Rattle.words.specs.Iterate.{iterate}

-- bit i and nibble j of x, counted from the lowest
abbrev pub bit : ℕ → ℕ → ℕ
bit i x = digit 2 i x

abbrev pub nibble : ℕ → ℕ → ℕ
nibble j x = digit 16 j x

-- ---- 1. "Each of the 32 nibbles goes through the S-box 1 A 4 C 6 F 3 9 2 D B 7 5 0 8 E (entries 0 to F)."

abbrev pub entries : List ℕ
entries = 0x1 ∷ 0xA ∷ 0x4 ∷ 0xC ∷ 0x6 ∷ 0xF ∷ 0x3 ∷ 0x9 ∷ 0x2 ∷ 0xD ∷ 0xB ∷ 0x7 ∷ 0x5 ∷ 0x0 ∷ 0x8 ∷ 0xE ∷ []

-- of the numbers below n, the one that the S-box takes to y
unfoldable pub source : ℕ → ℕ → ℕ
source zero y = 0
source (suc n) y = cond (eqb (get_or entries n 0) y) n (source n y)

unfoldable pub sbox : Bool → ℕ → ℕ
sbox false n = get_or entries n 0
sbox true n = source 16 n

unfoldable pub sub_cells : Bool → ℕ → ℕ
sub_cells back x = xsum (λ j. sbox back (nibble j x) * 16 ^ j) 32

-- ---- 2. "Bit i moves to 4·(i/16) + 32·((3·((i%16)/4) + i%4) % 4) + i%4, all divisions rounded down."

unfoldable pub place : ℕ → ℕ
place i = 4 * (i / 16) + 32 * ((3 * (i % 16 / 4) + i % 4) % 4) + i % 4

-- bit i to its place, and back from there
unfoldable pub perm_bits : Bool → ℕ → ℕ
perm_bits back x = xsum (λ i. bit (cond back (place i) i) x * 2 ^ cond back i (place i)) 128

-- ---- 3. "The key state is k7..k0, words of 16 bits, k0 lowest. Let U = k5 then k4 and V = k1 then k0, the first word
-- higher."

abbrev pub word : ℕ → ℕ → ℕ
word j k = k / 2 ^ (16 * j) % 2 ^ 16

abbrev pub key_u : ℕ → ℕ
key_u k = word 5 k * 2 ^ 16 + word 4 k

abbrev pub key_v : ℕ → ℕ
key_v k = word 1 k * 2 ^ 16 + word 0 k

-- bit i of u at bit 4i+o, for i from 0 to n-1
unfoldable pub spread : ℕ → ℕ → ℕ → ℕ
spread o n u = xsum (λ i. bit i u * 2 ^ (4 * i + o)) n

-- "Bit i of U is added by exclusive or to bit 4i+2, bit i of V to bit 4i+1, for i from 0 to 31."
unfoldable pub key_bits : ℕ → ℕ
key_bits k = bit_xor (spread 2 32 (key_u k)) (spread 1 32 (key_v k))

-- ---- 4. "The round constant starts at 0 and is stepped before each use: shift left by one in six bits, with the new
-- low bit c5 + c4 + 1 modulo 2."

abbrev pub step_const : ℕ → ℕ
step_const c = c * 2 % 2 ^ 6 + (bit 5 c + bit 4 c + 1) % 2

-- after r steps
abbrev pub round_const : ℕ → ℕ
round_const r = iterate (λ i. step_const) r 0

-- "Bit 127 is flipped. The six-bit round constant c5..c0 is added to bits 23, 19, 15, 11, 7, 3."
unfoldable pub const_bits : ℕ → ℕ
const_bits c = bit_xor (2 ^ 127) (spread 3 6 c)

-- ---- 5. "The key state becomes, from the top: k1 rotated right by 2, k0 rotated right by 12, k7, k6, k5, k4, k3, k2."

unfoldable pub key_step : ℕ → ℕ
key_step k = rotr 16 2 (word 1 k) * 2 ^ 112 + rotr 16 12 (word 0 k) * 2 ^ 96 + k / 2 ^ 32

-- after r steps
abbrev pub key_at : ℕ → ℕ → ℕ
key_at k r = iterate (λ i. key_step) r k

-- ---- the rounds

-- what round r, counted from 0, adds to the block in its steps 3 and 4
unfoldable pub round_key : ℕ → ℕ → ℕ
round_key k r = bit_xor (key_bits (key_at k r)) (const_bits (round_const (suc r)))

-- a round that adds a, "in this order", and undone in the other
unfoldable pub round : Bool → ℕ → ℕ → ℕ
round false a x = bit_xor (perm_bits false (sub_cells false x)) a
round true a x = sub_cells true (perm_bits true (bit_xor x a))

-- n rounds, which add a 0, a 1, ..
abbrev pub rounds : Bool → (ℕ → ℕ) → ℕ → ℕ → ℕ
rounds back a n x = iterate (λ r. round back (a r)) n x

-- "Forty rounds", and back from the last
unfoldable pub forty : Bool → (ℕ → ℕ) → ℕ → ℕ
forty back a x = rounds back (λ r. a (cond back (39 - r) r)) 40 x

unfoldable pub cipher : Bool → ℕ → ℕ → ℕ
cipher back k x = forty back (round_key k) x

abbrev pub encipher : ℕ → ℕ → ℕ
encipher k x = cipher false k x

abbrev pub decipher : ℕ → ℕ → ℕ
decipher k x = cipher true k x
