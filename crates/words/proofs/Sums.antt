-- Sums by exclusive or, and digits to a base that is a power of two: through exclusive or, through a sum of shifted
-- digits, and that numbers with equal digits are equal.
use mathlib.Core.Path.{◌≡◌, refl, sym, ap, ap₂, ◌∙◌, subst, subst⁻¹}
use mathlib.Core.Logic.{◌≢◌, ⊎_elim}
use Prim.Native.Nat.{ℕ, zero, suc, ◌+◌, ◌*◌, ◌/◌, ◌%◌, ◌^◌, ◌<◌, suc-le-suc}
use native.Mathlib.Nat.{not-suc-le-zero, le_of_suc-le-suc, le_refl, le_step, lt_of_lt_of_le, eq-or-lt_of_le}
use native.Mathlib.Nat.{zero-lt-suc, pow-zero, pow-suc, mul-zero, mul-suc, zero-div, zero-mod, div-one, mod-eq_of_lt}
use native.Mathlib.Nat.{div-eq_of_lt, mul-lt-mul_of_pos_right, mul_assoc, mul-mod_left, mul-div_cancel}
use native.Mathlib.Nat.{div-div-eq-div-mul, div-add-mod', div-lt_iff_lt-mul, one-le-pow, pow-le-pow_right, pow-succ'}
use native.Mathlib.Nat.{le_dest, lt_irrefl}
use native.Mathlib.Decide.{dec_le}
use native.Mathlib.Numerals.{add-one}
use native.Mathlib.Omega.{arith}
use lib.Arith.{lt-one}
use lib.Bits.{bit_xor, xor_zero_r, xor_lt, xor_shr, xor_mod}
use lib.Pow.{pow_pos, pow-add}
use Rattle.words.specs.Digits.{digit, xsum}

-- ---- sums

pub xsum-next : (f : ℕ → ℕ) (i : ℕ) → xsum f (i + 1) ≡ bit_xor (xsum f i) (f i)
unfolding xsum
xsum-next f i = ap (xsum f) (add-one i)

xsum-zeros : (f : ℕ → ℕ) (n : ℕ) → ((i : ℕ) → i < n → f i ≡ zero) → xsum f n ≡ zero
unfolding xsum
xsum-zeros f zero h = refl
xsum-zeros f (suc n) h = ap₂ bit_xor (xsum-zeros f n (λ i l. h i (le_step l))) (h n (le_refl (suc n)))

-- one term only
xsum-one : (f : ℕ → ℕ) (n j : ℕ) → j < n → ((i : ℕ) → i < n → i ≢ j → f i ≡ zero) → xsum f n ≡ f j
unfolding xsum
xsum-one f zero j l h = absurd (not-suc-le-zero l)
xsum-one f (suc n) j l h =
    ⊎_elim
    (λ e. ap₂ bit_xor (xsum-zeros f n (λ i m. h i (le_step m) (λ p. lt_irrefl n (subst (λ (x : ℕ). x < n) (p ∙ e) m))))
    (ap f (sym e)))
    (λ m. ap₂ bit_xor (xsum-one f n j m (λ i k. h i (le_step k)))
    (h n (le_refl (suc n)) (λ p. lt_irrefl j (subst (λ (x : ℕ). j < x) p m))) ∙ xor_zero_r (f j))
    (eq-or-lt_of_le (le_of_suc-le-suc l))

xsum-lt : (k : ℕ) (f : ℕ → ℕ) (n : ℕ) → ((i : ℕ) → i < n → f i < 2 ^ k) → xsum f n < 2 ^ k
unfolding xsum
xsum-lt k f zero h = pow_pos k
xsum-lt k f (suc n) h = xor_lt k (xsum f n) (f n) (xsum-lt k f n (λ i l. h i (le_step l))) (h n (le_refl (suc n)))

-- ---- digits to the base 2 ^ w

pub pow-pow : (w j : ℕ) → (2 ^ w) ^ j ≡ 2 ^ (w * j)
pow-pow w zero = pow-zero (2 ^ w) ∙ ap (λ (x : ℕ). 2 ^ x) (sym (mul-zero w))
pow-pow w (suc j) =
    pow-suc (2 ^ w) j ∙ ap (λ (x : ℕ). x * 2 ^ w) (pow-pow w j) ∙ sym (pow-add 2 (w * j) w)
    ∙ ap (λ (x : ℕ). 2 ^ x) (sym (mul-suc w j))

digit-xor : (w j a c : ℕ) → digit (2 ^ w) j (bit_xor a c) ≡ bit_xor (digit (2 ^ w) j a) (digit (2 ^ w) j c)
digit-xor w j a c =
    subst⁻¹ (λ (p : ℕ). bit_xor a c / p % 2 ^ w ≡ bit_xor (a / p % 2 ^ w) (c / p % 2 ^ w)) (pow-pow w j)
    (ap (λ (x : ℕ). x % 2 ^ w) (xor_shr a c (w * j)) ∙ xor_mod (a / 2 ^ (w * j)) (c / 2 ^ (w * j)) w)

digit-xsum : (w j : ℕ) (f : ℕ → ℕ) (n : ℕ) → digit (2 ^ w) j (xsum f n) ≡ xsum (λ i. digit (2 ^ w) j (f i)) n
unfolding xsum
digit-xsum w j f zero = ap (λ (x : ℕ). x % 2 ^ w) (zero-div ((2 ^ w) ^ j)) ∙ zero-mod (2 ^ w)
digit-xsum w j f (suc n) =
    digit-xor w j (xsum f n) (f n) ∙ ap (λ (x : ℕ). bit_xor x (digit (2 ^ w) j (f n))) (digit-xsum w j f n)

-- a digit v, shifted to place i, has v at place i and zeros elsewhere
module _ (b i j v : ℕ) (hb : zero < b) where
  digit-same : v < b → i ≡ j → digit b j (v * b ^ i) ≡ v
  digit-same h e =
      ap (λ (k : ℕ). v * b ^ k / b ^ j % b) e ∙ ap (λ (x : ℕ). x % b) (mul-div_cancel v (one-le-pow j b hb))
      ∙ mod-eq_of_lt h

  shifted-lt : v < b → v * b ^ i < b ^ suc i
  shifted-lt h = subst (λ (x : ℕ). v * b ^ i < x) (sym (pow-succ' b i)) (mul-lt-mul_of_pos_right h (one-le-pow i b hb))

  digit-below : v < b → i < j → digit b j (v * b ^ i) ≡ zero
  digit-below h l =
      ap (λ (x : ℕ). x % b) (div-eq_of_lt (lt_of_lt_of_le (shifted-lt h) (pow-le-pow_right hb l))) ∙ zero-mod b

  digit-above : j < i → digit b j (v * b ^ i) ≡ zero
  digit-above l =
      let d = le_dest l in
      ap (λ (x : ℕ). digit b j (v * b ^ x)) (sym d.1 ∙ omega arith)
      ∙ ap (λ (x : ℕ). digit b j (v * x)) (pow-add b (suc d.0) j ∙ ap (λ (x : ℕ). x * b ^ j) (pow-suc b d.0))
      ∙ ap (λ (x : ℕ). x / b ^ j % b) (sym (mul_assoc v (b ^ d.0 * b) (b ^ j)))
      ∙ ap (λ (x : ℕ). x % b) (mul-div_cancel (v * (b ^ d.0 * b)) (one-le-pow j b hb) ∙ sym (mul_assoc v (b ^ d.0) b))
      ∙ mul-mod_left (v * b ^ d.0) b

  digit-other : v < b → i ≢ j → digit b j (v * b ^ i) ≡ zero
  digit-other h ne =
      elim (dec_le j i) [
        | yes l ↦ ⊎_elim (λ e. absurd (ne (sym e))) (λ m. digit-above m) (eq-or-lt_of_le l)
        | no l ↦ digit-below h (omega arith)
      ]

-- digits v i, for each i below n, put at the places p i: the digit at k is v j where j alone goes to k
pub digit-scatter : (w : ℕ) (v p : ℕ → ℕ) (n k j : ℕ) → ((i : ℕ) → v i < 2 ^ w) → j < n → p j ≡ k
    → ((i : ℕ) → i < n → p i ≡ k → i ≡ j)
    → digit (2 ^ w) k (xsum (λ i. v i * (2 ^ w) ^ p i) n) ≡ v j
digit-scatter w v p n k j hv l e u =
    digit-xsum w k (λ i. v i * (2 ^ w) ^ p i) n
    ∙ xsum-one (λ i. digit (2 ^ w) k (v i * (2 ^ w) ^ p i)) n j l
    (λ i m ne. digit-other (2 ^ w) (p i) k (v i) (pow_pos w) (hv i) (λ q. ne (u i m q)))
    ∙ digit-same (2 ^ w) (p j) k (v j) (pow_pos w) (hv j) e

pub scatter-lt : (w : ℕ) (v p : ℕ → ℕ) (n m : ℕ) → ((i : ℕ) → v i < 2 ^ w) → ((i : ℕ) → i < n → p i < m)
    → xsum (λ i. v i * (2 ^ w) ^ p i) n < 2 ^ (w * m)
scatter-lt w v p n m hv hp =
    xsum-lt (w * m) (λ i. v i * (2 ^ w) ^ p i) n
    (λ i l. subst (λ (x : ℕ). v i * (2 ^ w) ^ p i < x) (pow-pow w m)
    (lt_of_lt_of_le (shifted-lt (2 ^ w) (p i) 0 (v i) (pow_pos w) (hv i)) (pow-le-pow_right (pow_pos w) (hp i l))))

-- two numbers of n digits are equal when their digits are
digit-next : (b j n : ℕ) → digit b j (n / b) ≡ digit b (suc j) n
digit-next b j n = ap (λ (x : ℕ). x % b) (div-div-eq-div-mul n b (b ^ j) ∙ ap (λ (x : ℕ). n / x) (sym (pow-succ' b j)))

pub digit-ext : (b n x y : ℕ) → zero < b → x < b ^ n → y < b ^ n → ((j : ℕ) → j < n → digit b j x ≡ digit b j y) → x ≡ y
digit-ext b zero x y hb hx hy h =
    lt-one (subst (λ (m : ℕ). x < m) (pow-zero b) hx) ∙ sym (lt-one (subst (λ (m : ℕ). y < m) (pow-zero b) hy))
digit-ext b (suc n) x y hb hx hy h =
    sym (div-add-mod' x b)
    ∙ ap₂ (λ (q r : ℕ). q * b + r)
    (digit-ext b n (x / b) (y / b) hb (shorter x hx) (shorter y hy)
    (λ j l. digit-next b j x ∙ h (suc j) (suc-le-suc l) ∙ sym (digit-next b j y)))
    (first x ∙ h zero (zero-lt-suc n) ∙ sym (first y))
    ∙ div-add-mod' y b
  where
    shorter : (z : ℕ) → z < b ^ suc n → z / b < b ^ n
    shorter z hz = (div-lt_iff_lt-mul hb).1 (subst (λ (m : ℕ). z < m) (pow-suc b n) hz)

    first : (z : ℕ) → z % b ≡ digit b zero z
    first z = ap (λ (q : ℕ). q % b) (sym (div-one z) ∙ ap (λ (m : ℕ). z / m) (sym (pow-zero b)))
