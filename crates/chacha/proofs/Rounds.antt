-- The rounds and the block, of what the code's calls ensure.
use Rattle.std.proofs.Common.{◌≡◌, ℕ, ◌-◌, ◌*◌, ◌/◌, ◌%◌, ◌^◌, ◌<◌, ◌≤◌, List, length, get_or}
use Rattle.std.proofs.Common.{drop, set, replicate, refl, sym, ap, ◌∙◌, arith}
use Rattle.std.proofs.Common.{take_all, mod-lt}
use Rattle.std.proofs.lemmas.Nat.{or_comm, xor_lt}
use lib.Bits.{bit_or, bit_xor}
use lib.Seq.{sets}
use Rattle.words.specs.Digits.{sum_mod, rotl, tab}
use Rattle.words.specs.Words.{words, unwords}
use Rattle.std.specs.Int.{w32, rotate_left}
use Rattle.words.proofs.Rotation.{rotr-or}
use Rattle.words.proofs.Lists.{tab-at, length-tab, sets-whole}
use Rattle.words.proofs.WordLists.{length-unwords, words-first}
use Rattle.chacha.specs.ChaCha.{quarter, rounds, start_state, sums, block_from}

-- the library's rotation is the definition's
rotl-is : (n x : ℕ) → 0 < n → n < 32 → x < 2 ^ 32 → rotate_left w32 x n ≡ rotl 32 n x
rotl-is n x h0 h hx =
    let en : n % 32 ≡ n = omega arith in
    let em : (32 - n) % 32 ≡ 32 - n = omega arith in
    let ed : 32 - (32 - n) ≡ n = omega arith in
    let or : bit_or (x / 2 ^ (32 - n)) (x * 2 ^ n % 2 ^ 32) ≡ rotl 32 n x =
    ap (λ (k : ℕ). bit_or (x / 2 ^ (32 - n)) (x * 2 ^ k % 2 ^ 32)) (sym ed) ∙ rotr-or 32 (32 - n) x (omega arith) hx in
    rw (en, em) (or_comm (x * 2 ^ n % 2 ^ 32) (x / 2 ^ (32 - n)) ∙ or)

pub quarter-is : (a b c d d₁ b₁ d₂ b₂ : ℕ) → b < 2 ^ 32 → d < 2 ^ 32 → b₁ < 2 ^ 32 → d₁ < 2 ^ 32
    → let a₁ = sum_mod 32 a b in let c₁ = sum_mod 32 c d₁ in
    let a₂ = sum_mod 32 a₁ b₁ in let c₂ = sum_mod 32 c₁ d₂ in
    d₁ ≡ rotate_left w32 (bit_xor d a₁) 16 → b₁ ≡ rotate_left w32 (bit_xor b c₁) 12
    → d₂ ≡ rotate_left w32 (bit_xor d₁ a₂) 8 → b₂ ≡ rotate_left w32 (bit_xor b₁ c₂) 7
    → (a₂, b₂, c₂, d₂) ≡ quarter a b c d
unfolding quarter
quarter-is a b c d d₁ b₁ d₂ b₂ hb hd hb₁ hd₁ e1 e2 e3 e4 =
    rw (e4 ∙ rotl-is 7 _ (omega arith) (omega arith) (xor_lt 32 _ _ hb₁ (mod-lt _ (omega arith))))
    (rw (e3 ∙ rotl-is 8 _ (omega arith) (omega arith) (xor_lt 32 _ _ hd₁ (mod-lt _ (omega arith))))
    (rw (e2 ∙ rotl-is 12 _ (omega arith) (omega arith) (xor_lt 32 _ _ hb (mod-lt _ (omega arith))))
    (rw (e1 ∙ rotl-is 16 _ (omega arith) (omega arith) (xor_lt 32 _ _ hd (mod-lt _ (omega arith)))) refl)))

-- the start differs in the counter alone
pub start-set : (key nonce : List ℕ) (c₀ c : ℕ) → set (start_state key nonce c₀) 12 c ≡ start_state key nonce c
unfolding start_state words tab
start-set key nonce c₀ c = refl

pub length-start : (key nonce : List ℕ) (c : ℕ) → length (start_state key nonce c) ≡ 16
unfolding start_state words tab
length-start key nonce c = refl

-- ---- the block's words

pub sum-at : (s t : List ℕ) (i : ℕ) → i < 16 → get_or (sums s t) i 0 ≡ sum_mod 32 (get_or s i 0) (get_or t i 0)
unfolding sums
sum-at s t i h = tab-at (λ j. sum_mod 32 (get_or s j 0) (get_or t j 0)) 0 16 i h

pub length-sums : (s t : List ℕ) → length (sums s t) ≡ 16
unfolding sums
length-sums s t = length-tab (λ j. sum_mod 32 (get_or s j 0) (get_or t j 0)) 0 16

length-written : (s t : List ℕ) → length (unwords 4 (sums s t)) ≡ 64
length-written s t = length-unwords 4 (sums s t) ∙ ap (λ (n : ℕ). 4 * n) (length-sums s t)

-- all of them, from the front of the room
pub block-first : (s t : List ℕ) → sets (replicate 64 0) (4 * 0) (unwords 4 (drop 0 (sums s t))) ≡ unwords 4 (sums s t)
block-first s t =
    let l = length-written s t in
    let k : 64 ≤ length (unwords 4 (sums s t)) = omega arith in
    words-first 4 (replicate 64 0) (sums s t) ∙ sets-whole (replicate 64 0) (unwords 4 (sums s t)) k
    ∙ take_all 64 (unwords 4 (sums s t)) (omega arith)

pub block-is : (s t out : List ℕ) → t ≡ rounds s → out ≡ unwords 4 (sums s t) → out ≡ block_from s
unfolding block_from
block-is s t out e f = rw (f, e)

pub length-block : (s : List ℕ) → length (block_from s) ≡ 64
unfolding block_from
length-block s = length-written s (rounds s)
