-- Whether two blocks are the same, found by one test of what differs in either half.
use mathlib.Core.Path.{◌≡◌, sym, ap, ap₂, ◌∙◌}
use Prim.Native.Nat.{ℕ, ◌+◌, ◌*◌, ◌/◌, ◌%◌, ◌^◌, ◌<◌}
use native.Mathlib.Omega.{arith}
use lib.Bits.{bit_xor, bit_or, xor_self, xor_lt, or_lt, or_mod}
use lib.Dec.{eqb}
use Rattle.words.specs.declared.Block.{Block}
use Rattle.words.specs.Block.{value, halves}
use Rattle.words.proofs.Blocks.{halves-value}
use Rattle.words.proofs.ExclusiveOr.{xor-zero, or-zero}
use Rattle.words.proofs.Tests.{agree}

-- a number of 64 bits, its halves folded onto each other
abbrev folded : ℕ → ℕ
folded d = bit_or d (d / 2 ^ 32) % 2 ^ 32

fold-zero : (d : ℕ) → d < 2 ^ 64 → folded d ≡ 0 → d ≡ 0
fold-zero d h e =
    let z = or-zero (d % 2 ^ 32) (d / 2 ^ 32 % 2 ^ 32) (sym (or_mod d (d / 2 ^ 32) 32) ∙ e) in
    omega (arith, z.0, z.1)

module _ (a b : Block) (fa : (a.lo < 2 ^ 64) × (a.hi < 2 ^ 64)) (fb : (b.lo < 2 ^ 64) × (b.hi < 2 ^ 64)) where
  -- the bits that differ in either half
  differing : ℕ
  differing = bit_or (bit_xor a.lo b.lo) (bit_xor a.hi b.hi)

  differing-lt : differing < 2 ^ 64
  unfolding differing
  differing-lt = or_lt 64 _ _ (xor_lt 64 a.lo b.lo fa.0 fb.0) (xor_lt 64 a.hi b.hi fa.1 fb.1)

  equal : folded differing ≡ 0 → value a ≡ value b
  unfolding value differing
  equal e =
      let z = or-zero (bit_xor a.lo b.lo) (bit_xor a.hi b.hi) (fold-zero differing differing-lt e) in
      ap₂ (λ (h l : ℕ). h * 2 ^ 64 + l) (xor-zero a.hi b.hi z.1) (xor-zero a.lo b.lo z.0)

  none-differs : value a ≡ value b → folded differing ≡ 0
  unfolding differing
  none-differs e =
      let q : a ≡ b = sym (halves-value a fa.0) ∙ ap halves e ∙ halves-value b fb.0 in
      ap folded (ap₂ bit_or (ap (λ (x : Block). bit_xor x.lo b.lo) q ∙ xor_self b.lo)
      (ap (λ (x : Block). bit_xor x.hi b.hi) q ∙ xor_self b.hi))

  pub equal_is : eqb (folded (bit_or (bit_xor a.lo b.lo) (bit_xor a.hi b.hi))) 0 ≡ eqb (value a) (value b)
  unfolding differing
  equal_is = agree (folded differing) 0 (value a) (value b) equal none-differs
