-- Rotation, at any width.
use mathlib.Core.Path.{◌≡◌, sym, ap, ap₂, subst⁻¹, ◌∙◌}
use Prim.Native.Nat.{ℕ, ◌+◌, ◌-◌, ◌*◌, ◌/◌, ◌%◌, ◌^◌, ◌≤◌, ◌<◌}
use native.Mathlib.Nat.{add-zero, mod-lt, mul-mod_left}
use native.Mathlib.Omega.{arith}
use lib.Arith.{mod-mul, digits_lt}
use lib.Bits.{bit_or, or_shifted_r}
use lib.Pow.{shl-shr, shr_lt, pow_pos, pow-add}
use Rattle.words.specs.Digits.{rotr}

module _ (b n x : ℕ) (h : n ≤ b) where
  width : 2 ^ b ≡ 2 ^ n * 2 ^ (b - n)
  width = let e : n + (b - n) ≡ b = omega arith in ap (λ (i : ℕ). 2 ^ i) (sym e) ∙ pow-add 2 n (b - n)

  -- what a shift to the left keeps
  shifted : x * 2 ^ (b - n) % 2 ^ b ≡ x % 2 ^ n * 2 ^ (b - n)
  shifted =
      ap (λ (y : ℕ). x * 2 ^ (b - n) % y) width ∙ mod-mul (x * 2 ^ (b - n)) (pow_pos n) (pow_pos (b - n))
      ∙ ap₂ (λ (y z : ℕ). y % 2 ^ n * 2 ^ (b - n) + z) (shl-shr x (b - n)) (mul-mod_left x (2 ^ (b - n)))
      ∙ add-zero (x % 2 ^ n * 2 ^ (b - n))

  -- what is left of a shift to the right
  high_lt : x < 2 ^ b → x / 2 ^ n < 2 ^ (b - n)
  high_lt hx = let e : b - n + n ≡ b = omega arith in shr_lt (b - n) n (subst⁻¹ (λ (i : ℕ). x < 2 ^ i) e hx)

  -- as code has it: the two shifts added, or joined
  pub rotr-is : x * 2 ^ (b - n) % 2 ^ b + x / 2 ^ n ≡ rotr b n x
  unfolding rotr
  rotr-is = ap (λ (y : ℕ). y + x / 2 ^ n) shifted

  pub rotr-or : x < 2 ^ b → bit_or (x / 2 ^ n) (x * 2 ^ (b - n) % 2 ^ b) ≡ rotr b n x
  unfolding rotr
  rotr-or hx = ap (bit_or (x / 2 ^ n)) shifted ∙ or_shifted_r (x % 2 ^ n) (b - n) (x / 2 ^ n) (high_lt hx)

  pub rotr-lt : x < 2 ^ b → rotr b n x < 2 ^ b
  unfolding rotr
  rotr-lt hx = subst⁻¹ (λ (y : ℕ). rotr b n x < y) width (digits_lt (mod-lt x (pow_pos n)) (high_lt hx))
