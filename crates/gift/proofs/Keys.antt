-- The key state in its halves, and what is worked out from it.
use mathlib.Core.Path.{◌≡◌, refl, sym, ap, ap₂, ◌∙◌}
use Prim.Native.Nat.{ℕ, ◌+◌, ◌*◌, ◌/◌, ◌%◌, ◌^◌, ◌<◌}
use native.Mathlib.Nat.{div-one}
use native.Mathlib.Omega.{arith}
use lib.Bits.{bit_xor}
use lib.Dec.{lit≤}
use lib.Pow.{mod-pow-add}
use Rattle.words.specs.declared.Block.{Block}
use Rattle.words.specs.Block.{value, halves}
use Rattle.words.specs.Digits.{rotr}
use Rattle.words.specs.Iterate.{iterate}
use Rattle.words.proofs.Blocks.{whole, value-is}
use Rattle.words.proofs.Iterate.{iterate-next}
use Rattle.gift.specs.Gift.{word, key_u, key_v, key_bits, step_const, round_const, const_bits, key_step, key_at}
use Rattle.gift.specs.Gift.{round_key}
use Rattle.words.proofs.Fields.{field-low, from-high}

-- ---- U and V

pub key_u-is : (k : Block) → k.lo < 2 ^ 64 → k.hi % 2 ^ 32 ≡ key_u (value k)
key_u-is k h =
    mod-pow-add k.hi 16 16
    ∙ ap₂ (λ (x y : ℕ). x % 2 ^ 16 * 2 ^ 16 + y % 2 ^ 16) (from-high k 80 16 h refl)
    (sym (div-one k.hi) ∙ from-high k 64 0 h refl)

pub key_v-is : (k : Block) → k.lo % 2 ^ 32 ≡ key_v (value k)
key_v-is k =
    mod-pow-add k.lo 16 16
    ∙ ap₂ (λ (x y : ℕ). x * 2 ^ 16 + y) (field-low k 16 16 (lit≤ tt))
    (ap (λ (x : ℕ). x % 2 ^ 16) (sym (div-one k.lo)) ∙ field-low k 0 16 (lit≤ tt))

-- ---- the step

pub key_step-fits : (x y : ℕ) → x < 2 ^ 64 → x / 4294967296 + y % 4294967296 * 4294967296 < 2 ^ 64
key_step-fits x y h = omega arith

pub key_step-is : (k : Block) (a b : ℕ) → k.lo < 2 ^ 64 → a ≡ rotr 16 2 (k.lo / 65536 % 65536)
    → b ≡ rotr 16 12 (k.lo % 65536)
    → record {
      lo = k.lo / 4294967296 + k.hi % 4294967296 * 4294967296;
      hi = k.hi / 4294967296 + b * 4294967296 + a * 281474976710656;
    } ≡ halves (key_step (value k))
unfolding value key_step
key_step-is k a b h ea eb =
    whole _ (key_step-fits k.lo k.hi h)
    (shape (k.hi / 2 ^ 32) (k.hi % 2 ^ 32) (k.lo / 2 ^ 32) a b
    ∙ ap₂ (λ (x y : ℕ). x * 2 ^ 112 + y * 2 ^ 96 + (k.hi / 2 ^ 32 * 2 ^ 64 + k.hi % 2 ^ 32 * 2 ^ 32 + k.lo / 2 ^ 32))
    (ea ∙ ap (rotr 16 2) (field-low k 16 16 (lit≤ tt)))
    (eb ∙ ap (rotr 16 12) (ap (λ (x : ℕ). x % 2 ^ 16) (sym (div-one k.lo)) ∙ field-low k 0 16 (lit≤ tt)))
    ∙ ap (λ (x : ℕ). rotr 16 2 (word 1 (value k)) * 2 ^ 112 + rotr 16 12 (word 0 (value k)) * 2 ^ 96 + x) (rejoin k))
  where
    shape : (p q l a b : ℕ) → value (record { lo = l + q * 2 ^ 32; hi = p + b * 2 ^ 32 + a * 2 ^ 48 })
        ≡ a * 2 ^ 112 + b * 2 ^ 96 + (p * 2 ^ 64 + q * 2 ^ 32 + l)
    shape p q l a b = omega arith

    rejoin : (k : Block) → k.hi / 2 ^ 32 * 2 ^ 64 + k.hi % 2 ^ 32 * 2 ^ 32 + k.lo / 2 ^ 32 ≡ value k / 2 ^ 32
    rejoin k = omega arith

-- ---- one step of the loop over the rounds

-- the state goes on
pub state-next : (k r : ℕ) {s t : Block} → s ≡ halves (key_at k r) → t ≡ halves (key_step (value s))
    → t ≡ halves (key_at k (r + 1))
state-next k r es et = et ∙ ap halves (iterate-next (λ i. key_step) r k (value-is es) refl)

-- what is added
pub round_key-next : (k r : ℕ) {s u v w : Block} {c d : ℕ} → s ≡ halves (key_at k r) → c ≡ round_const r → d
    ≡ step_const c
    → u ≡ halves (key_bits (value s)) → v ≡ halves (const_bits d) → w ≡ halves (bit_xor (value u) (value v))
    → w ≡ halves (round_key k r)
unfolding round_key iterate
round_key-next k r es ec ed eu ev ew =
    ew
    ∙ ap halves (ap₂ bit_xor
    (value-is eu ∙ ap key_bits (value-is es))
    (value-is ev ∙ ap const_bits (ed ∙ ap step_const ec)))
