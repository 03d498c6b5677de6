-- Digits of a number, sums in so many bits, rotation, sums by exclusive or, and lists by a rule.
use Rattle.std.specs.Prelude.{ℕ, zero, suc, ◌+◌, ◌-◌, ◌*◌, ◌/◌, ◌%◌, ◌^◌, List, [], ◌∷◌}
use Rattle.std.specs.Int.Bits.{bit_xor}

-- digit j of n to the base b, digit 0 the lowest
abbrev pub digit : ℕ → ℕ → ℕ → ℕ
digit b j n = n / b ^ j % b

-- x plus y in b bits
abbrev pub sum_mod : ℕ → ℕ → ℕ → ℕ
sum_mod b x y = (x + y) % 2 ^ b

-- x, of b bits, rotated right by n
unfoldable pub rotr : ℕ → ℕ → ℕ → ℕ
rotr b n x = x % 2 ^ n * 2 ^ (b - n) + x / 2 ^ n

-- and left
abbrev pub rotl : ℕ → ℕ → ℕ → ℕ
rotl b n x = rotr b (b - n) x

-- the exclusive or of f 0, f 1, .., f (n - 1)
unfoldable pub xsum : (ℕ → ℕ) → ℕ → ℕ
xsum f zero = zero
xsum f (suc n) = bit_xor (xsum f n) (f n)

-- the list of f i, f (i + 1), .., n of them
unfoldable pub tab : {A : Type 0} → (ℕ → A) → ℕ → ℕ → List A
tab f i zero = []
tab f i (suc n) = f i ∷ tab f (suc i) n
