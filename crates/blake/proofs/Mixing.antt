-- The mixing and the rounds, of what the code's calls ensure.
use Rattle.std.proofs.Common.{◌≡◌, ℕ, ◌+◌, ◌-◌, ◌*◌, ◌/◌, ◌%◌, ◌^◌, ◌<◌, T, eqb, List, get_or}
use Rattle.std.proofs.Common.{refl, ◌∙◌, ap₂, arith}
use Rattle.std.proofs.Common.{mod-lt}
use Rattle.std.proofs.lemmas.Nat.{xor_lt}
use Rattle.std.specs.Int.{w64, rotate_right}
use lib.Dec.{eqb→eq}
use lib.Bits.{bit_xor}
use Rattle.words.specs.Digits.{sum_mod, rotr}
use Rattle.words.proofs.Rotation.{rotr-or}
use Rattle.words.proofs.Tests.{all_below, below}
use Rattle.blake.specs.declared.tables.TheConstants.{SIGMA}
use Rattle.blake.specs.Blake.{sigma_table, sigma, mixed, word_at, mixing}

-- ---- the schedule

-- place i of row r, in the number of the row
abbrev pub nibble_of : ℕ → ℕ → ℕ
nibble_of r i = get_or SIGMA r 0 / 2 ^ (4 * i) % 16

as-listed : T (all_below (λ r. all_below (λ i. eqb (nibble_of r i) (get_or sigma_table (r * 16 + i) 0)) 16) 10)
unfolding sigma_table
as-listed = tt

pub place_is : (r i : ℕ) → i < 16 → nibble_of (r % 10) i ≡ sigma r i
unfolding sigma
place_is r i h =
    eqb→eq _ _
    (below (λ i. eqb (nibble_of (r % 10) i) (get_or sigma_table (r % 10 * 16 + i) 0)) 16
    (below (λ r. all_below (λ i. eqb (nibble_of r i) (get_or sigma_table (r * 16 + i) 0)) 16) 10 as-listed (r % 10)
    (mod-lt r (omega arith))) i h)

-- ---- the mixing

-- the library's rotation is the definition's
rotr-is : (n x : ℕ) → 0 < n → n < 64 → x < 2 ^ 64 → rotate_right w64 x n ≡ rotr 64 n x
rotr-is n x h0 h hx =
    let en : n % 64 ≡ n = omega arith in
    let em : (64 - n) % 64 ≡ 64 - n = omega arith in
    rw (en, em) (rotr-or 64 n x (omega arith) hx)

pub mixed-is : (a b c d x y d₁ b₁ d₂ b₂ : ℕ) → b < 2 ^ 64 → d < 2 ^ 64 → b₁ < 2 ^ 64 → d₁ < 2 ^ 64
    → let a₁ = sum_mod 64 (sum_mod 64 a b) x in let c₁ = sum_mod 64 c d₁ in
    let a₂ = sum_mod 64 (sum_mod 64 a₁ b₁) y in let c₂ = sum_mod 64 c₁ d₂ in
    d₁ ≡ rotate_right w64 (bit_xor d a₁) 32 → b₁ ≡ rotate_right w64 (bit_xor b c₁) 24
    → d₂ ≡ rotate_right w64 (bit_xor d₁ a₂) 16 → b₂ ≡ rotate_right w64 (bit_xor b₁ c₂) 63
    → (a₂, b₂, c₂, d₂) ≡ mixed a b c d x y
unfolding mixed
mixed-is a b c d x y d₁ b₁ d₂ b₂ hb hd hb₁ hd₁ e1 e2 e3 e4 =
    rw (e4 ∙ rotr-is 63 _ (omega arith) (omega arith) (xor_lt 64 _ _ hb₁ (mod-lt _ (omega arith))))
    (rw (e3 ∙ rotr-is 16 _ (omega arith) (omega arith) (xor_lt 64 _ _ hd₁ (mod-lt _ (omega arith))))
    (rw (e2 ∙ rotr-is 24 _ (omega arith) (omega arith) (xor_lt 64 _ _ hb (mod-lt _ (omega arith))))
    (rw (e1 ∙ rotr-is 32 _ (omega arith) (omega arith) (xor_lt 64 _ _ hd (mod-lt _ (omega arith)))) refl)))

-- of the words that a round takes
pub mixing-is : (m : List ℕ) (r n a b c d : ℕ) {x y : ℕ} {q : ℕ × ℕ × ℕ × ℕ} → q ≡ mixed a b c d x y
    → x ≡ word_at m r (2 * n)
    → y ≡ word_at m r (2 * n + 1)
    → q ≡ mixing m r n a b c d
unfolding mixing
mixing-is m r n a b c d e ex ey = e ∙ ap₂ (mixed a b c d) ex ey
