-- Exclusive or: associativity and cancellation.
use mathlib.Core.Path.{◌≡◌, refl, sym, ap, ap₂, ◌∙◌}
use Prim.Native.Nat.{ℕ, zero, suc, ◌+◌, ◌*◌, ◌/◌, ◌%◌, ◌<◌}
use native.Mathlib.Nat.{mod-lt, zero-lt-suc}
use native.Mathlib.Omega.{arith}
use lib.Arith.{bin_ind}
use lib.Bits.{bit_or, bit_xor, differ, xor_step, xor_shr, xor_mod, xor_self, xor_zero_r, or_add_and, and_le_l, and_le_r}

bit-xor : (y z : ℕ) → y < 2 → z < 2 → differ y z ≡ bit_xor y z
bit-xor zero z hy hz = refl
bit-xor (suc zero) zero hy hz = refl
bit-xor (suc zero) (suc zero) hy hz = refl
bit-xor (suc zero) (suc (suc z)) hy hz = absurd (omega arith)
bit-xor (suc (suc y)) z hy hz = absurd (omega arith)

assoc-bit : (x y z : ℕ) → x < 2 → y < 2 → z < 2 → differ (bit_xor x y) z ≡ differ x (bit_xor y z)
assoc-bit zero y z hx hy hz = bit-xor y z hy hz
assoc-bit (suc zero) zero z hx hy hz = refl
assoc-bit (suc zero) (suc zero) zero hx hy hz = refl
assoc-bit (suc zero) (suc zero) (suc zero) hx hy hz = refl
assoc-bit (suc zero) (suc zero) (suc (suc z)) hx hy hz = absurd (omega arith)
assoc-bit (suc zero) (suc (suc y)) z hx hy hz = absurd (omega arith)
assoc-bit (suc (suc x)) y z hx hy hz = absurd (omega arith)

pub xor_assoc : (a b c : ℕ) → bit_xor (bit_xor a b) c ≡ bit_xor a (bit_xor b c)
xor_assoc =
    bin_ind (λ (n : ℕ). (b c : ℕ) → bit_xor (bit_xor n b) c ≡ bit_xor n (bit_xor b c)) (λ b c. refl)
    (λ n ih b c.
    xor_step (bit_xor n b) c
    ∙ ap₂ (λ (x y : ℕ). bit_xor x (c / 2) * 2 + differ y (c % 2)) (xor_shr n b 1) (xor_mod n b 1)
    ∙ ap₂ (λ (x y : ℕ). x * 2 + y) (ih (b / 2) (c / 2))
    (assoc-bit (n % 2) (b % 2) (c % 2) (mod-lt n (zero-lt-suc 1)) (mod-lt b (zero-lt-suc 1)) (mod-lt c (zero-lt-suc 1)))
    ∙ sym (xor_step n (bit_xor b c)
    ∙ ap₂ (λ (x y : ℕ). bit_xor (n / 2) x * 2 + differ (n % 2) y) (xor_shr b c 1) (xor_mod b c 1)))

-- what is added twice is gone
pub xor-undo : (a k : ℕ) → bit_xor (bit_xor a k) k ≡ a
xor-undo a k = xor_assoc a k k ∙ ap (bit_xor a) (xor_self k) ∙ xor_zero_r a

pub xor-cancel : (k : ℕ) {a b : ℕ} → bit_xor a k ≡ bit_xor b k → a ≡ b
xor-cancel k {a} {b} e = sym (xor-undo a k) ∙ ap (λ (x : ℕ). bit_xor x k) e ∙ xor-undo b k

-- numbers whose sum is zero are equal
pub xor-zero : (a b : ℕ) → bit_xor a b ≡ 0 → a ≡ b
xor-zero a b e = xor-cancel b (e ∙ sym (xor_self b))

pub or-zero : (a b : ℕ) → bit_or a b ≡ 0 → (a ≡ 0) × (b ≡ 0)
or-zero a b e = (omega (arith, or_add_and a b, and_le_r a b), omega (arith, or_add_and a b, and_le_l a b))
