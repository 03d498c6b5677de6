-- Fields of a block: what stands at a place of its number, read and added in its halves.
use mathlib.Core.Path.{◌≡◌, sym, ap, ◌∙◌, subst, subst⁻¹}
use Prim.Native.Nat.{ℕ, zero, ◌+◌, ◌-◌, ◌*◌, ◌/◌, ◌%◌, ◌^◌, ◌≤◌, ◌<◌}
use native.Mathlib.Nat.{lt_of_lt_of_le, mod-eq_of_lt, mul-add-div_right, mul-add-mod_self_right, mul_assoc, one-mul}
use native.Mathlib.Nat.{zero-add, add-zero}
use native.Mathlib.Omega.{arith}
use lib.Bits.{bit_xor, xor_block, xor_zero_r, xor_lt}
use lib.Pow.{pow-lt, pow_mono, pow_pos, pow-add, shl_lt, shr-shr, high}
use Rattle.words.specs.declared.Block.{Block}
use Rattle.words.specs.Block.{value, halves}
use Rattle.words.proofs.Blocks.{whole}

-- ---- read: w bits at s

pub field-low : (b : Block) (s w : ℕ) → s + w ≤ 64 → b.lo / 2 ^ s % 2 ^ w ≡ value b / 2 ^ s % 2 ^ w
unfolding value
field-low b s w h = sym (low b.hi b.lo)
  where
    low : (hi lo : ℕ) → (hi * 2 ^ 64 + lo) / 2 ^ s % 2 ^ w ≡ lo / 2 ^ s % 2 ^ w
    low hi lo =
        let d : ℕ = 64 - (s + w) in
        let e : 64 ≡ d + w + s = omega arith in
        ap (λ (x : ℕ). (hi * 2 ^ x + lo) / 2 ^ s % 2 ^ w) e
        ∙ ap (λ (x : ℕ). (x + lo) / 2 ^ s % 2 ^ w)
        (ap (λ (x : ℕ). hi * x) (pow-add 2 (d + w) s) ∙ sym (mul_assoc hi (2 ^ (d + w)) (2 ^ s)))
        ∙ ap (λ (x : ℕ). x % 2 ^ w) (mul-add-div_right (pow_pos s) (hi * 2 ^ (d + w)) lo)
        ∙ ap (λ (x : ℕ). (x + lo / 2 ^ s) % 2 ^ w)
        (ap (λ (x : ℕ). hi * x) (pow-add 2 d w) ∙ sym (mul_assoc hi (2 ^ d) (2 ^ w)))
        ∙ mul-add-mod_self_right (hi * 2 ^ d) (2 ^ w) (lo / 2 ^ s)

-- all from s on
pub from-high : (b : Block) (s t : ℕ) → b.lo < 2 ^ 64 → s ≡ 64 + t → b.hi / 2 ^ t ≡ value b / 2 ^ s
unfolding value
from-high b s t h e =
    sym (ap (λ (x : ℕ). (b.hi * 2 ^ 64 + b.lo) / 2 ^ x) e ∙ sym (shr-shr (b.hi * 2 ^ 64 + b.lo) 64 t)
    ∙ ap (λ (x : ℕ). x / 2 ^ t) (high b.hi 64 h))

pub field-high : (b : Block) (s t w : ℕ) → b.lo < 2 ^ 64 → s ≡ 64 + t → b.hi / 2 ^ t % 2 ^ w ≡ value b / 2 ^ s % 2 ^ w
field-high b s t w h e = ap (λ (x : ℕ). x % 2 ^ w) (from-high b s t h e)

-- the code's modulus
pub one_shl : (w : ℕ) → w < 64 → 1 * 2 ^ w % 2 ^ 64 ≡ 2 ^ w
one_shl w h = ap (λ (x : ℕ). x % 2 ^ 64) (one-mul (2 ^ w)) ∙ mod-eq_of_lt (pow-lt h)

pub one-shl-pos : (w : ℕ) → w < 64 → 0 < 1 * 2 ^ w % 2 ^ 64
one-shl-pos w h = subst⁻¹ (λ (m : ℕ). 0 < m) (one_shl w h) (pow_pos w)

-- ---- added: v at s

-- v of w bits does not reach over the middle where its place leaves it room
pub put-fits : (v w s : ℕ) → v < 2 ^ w → w + s % 64 ≤ 64 → v * 2 ^ (s % 64) < 2 ^ 64
put-fits v w s h l = lt_of_lt_of_le (shl_lt w (s % 64) h) (pow_mono l)

-- t added to the low half, to the high half
add_low : (hi lo t : ℕ) → lo < 2 ^ 64 → t < 2 ^ 64 → hi * 2 ^ 64 + bit_xor lo t ≡ bit_xor (hi * 2 ^ 64 + lo) t
add_low hi lo t hl ht =
    sym (ap (bit_xor (hi * 2 ^ 64 + lo)) (sym (zero-add t)) ∙ xor_block 64 hi zero lo t hl ht
    ∙ ap (λ (x : ℕ). x * 2 ^ 64 + bit_xor lo t) (xor_zero_r hi))

add-high : (hi lo t : ℕ) → lo < 2 ^ 64 → bit_xor hi t * 2 ^ 64 + lo ≡ bit_xor (hi * 2 ^ 64 + lo) (t * 2 ^ 64)
add-high hi lo t hl =
    sym (ap (bit_xor (hi * 2 ^ 64 + lo)) (sym (add-zero (t * 2 ^ 64))) ∙ xor_block 64 hi t lo zero hl (pow_pos 64)
    ∙ ap (λ (x : ℕ). bit_xor hi t * 2 ^ 64 + x) (xor_zero_r lo))

-- v shifted in two parts
shl-two : (v i j : ℕ) → v * 2 ^ i * 2 ^ j ≡ v * 2 ^ (i + j)
shl-two v i j = mul_assoc v (2 ^ i) (2 ^ j) ∙ ap (λ (x : ℕ). v * x) (sym (pow-add 2 i j))

module _ (b : Block) (s v : ℕ) (small : b.lo < 2 ^ 64) (fits : v * 2 ^ (s % 64) < 2 ^ 64) where
  pub put_low : s < 64 → record { lo = bit_xor b.lo (v * 2 ^ s % 2 ^ 64); hi = b.hi }
      ≡ halves (bit_xor (value b) (v * 2 ^ s))
  unfolding value
  put_low h =
      let t : v * 2 ^ s < 2 ^ 64 = subst (λ (x : ℕ). v * 2 ^ x < 2 ^ 64) (mod-eq_of_lt h) fits in
      ap (λ (x : ℕ). record { lo = bit_xor b.lo x; hi = b.hi }) (mod-eq_of_lt t)
      ∙ whole (record { lo = bit_xor b.lo (v * 2 ^ s); hi = b.hi }) (xor_lt 64 b.lo (v * 2 ^ s) small t)
      (add_low b.hi b.lo (v * 2 ^ s) small t)

  pub put-high : 64 ≤ s → s < 128 → record { lo = b.lo; hi = bit_xor b.hi (v * 2 ^ (s - 64) % 2 ^ 64) }
      ≡ halves (bit_xor (value b) (v * 2 ^ s))
  unfolding value
  put-high h k =
      let m : s % 64 ≡ s - 64 = omega arith in
      let e : s - 64 + 64 ≡ s = omega arith in
      ap (λ (x : ℕ). record { lo = b.lo; hi = bit_xor b.hi x })
      (mod-eq_of_lt (subst (λ (x : ℕ). v * 2 ^ x < 2 ^ 64) m fits))
      ∙ whole (record { lo = b.lo; hi = bit_xor b.hi (v * 2 ^ (s - 64)) }) small
      (add-high b.hi b.lo (v * 2 ^ (s - 64)) small
      ∙ ap (bit_xor (b.hi * 2 ^ 64 + b.lo)) (shl-two v (s - 64) 64 ∙ ap (λ (x : ℕ). v * 2 ^ x) e))
