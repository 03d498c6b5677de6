-- The S-box and the bit move: each below its bound and undone by the way back, by tests that antt computes.
use mathlib.Core.Path.{◌≡◌, refl, sym, ap, ◌∙◌}
use mathlib.Core.Bool.{Bool, true, false, cond, not, ◌&&◌}
use Prim.Native.Nat.{ℕ, ◌+◌, ◌*◌, ◌/◌, ◌%◌, ◌^◌, ◌<◌}
use native.Mathlib.Nat.{zero-lt-suc, mod-lt}
use lib.Dec.{T, ltb, eqb, ltb→lt, eqb→eq}
use Rattle.words.specs.Digits.{xsum}
use Rattle.words.proofs.Sums.{digit-scatter, scatter-lt, digit-ext}
use Rattle.words.proofs.Tests.{and_left, and_right, all_below, below}
use Rattle.gift.specs.Gift.{bit, nibble, sbox, source, sub_cells, place, perm_bits}

-- p goes from the numbers below n to themselves, and q undoes it
abbrev undoing : (ℕ → ℕ) → (ℕ → ℕ) → ℕ → ℕ → Bool
undoing p q n i = ltb (p i) n && eqb (q (p i)) i

abbrev Undoes : (ℕ → ℕ) → (ℕ → ℕ) → ℕ → Type 0
Undoes p q n = (i : ℕ) → i < n → (p i < n) × (q (p i) ≡ i)

undoes : (p q : ℕ → ℕ) (n : ℕ) → T (all_below (undoing p q n) n) → Undoes p q n
undoes p q n t i l =
    let b = below (undoing p q n) n t i l in (
      ltb→lt (p i) n (and_left (ltb (p i) n) (eqb (q (p i)) i) b),
      eqb→eq (q (p i)) i
          (and_right (ltb (p i) n) (eqb (q (p i)) i) b),
    )

-- ---- the S-box

sbox-undoes : (back : Bool) → Undoes (sbox back) (sbox (not back)) 16
unfolding sbox source
sbox-undoes false = undoes (sbox false) (sbox true) 16 tt
sbox-undoes true = undoes (sbox true) (sbox false) 16 tt

-- entry n of the S-box is nibble n of p
abbrev entry : Bool → ℕ → ℕ → Bool
entry back p n = eqb (p / 2 ^ (4 * n) % 16) (sbox back n)

-- of p on the way back, of q on the way there
pub packed : (back : Bool) (p q : ℕ) → T (all_below (entry true p) 16) → T (all_below (entry false q) 16) → (n : ℕ)
    → n < 16
    → cond back p q / 2 ^ (4 * n) % 16 ≡ sbox back n
packed false p q t u n h = eqb→eq _ _ (below (entry false q) 16 u n h)
packed true p q t u n h = eqb→eq _ _ (below (entry true p) 16 t n h)

nibble-lt : (j x : ℕ) → nibble j x < 16
nibble-lt j x = mod-lt (x / 16 ^ j) (zero-lt-suc 15)

module _ (back : Bool) where
  sbox-lt : (x j : ℕ) → sbox back (nibble j x) < 16
  sbox-lt x j = (sbox-undoes back (nibble j x) (nibble-lt j x)).0

  sub_cells-at : (x k : ℕ) → k < 32 → nibble k (sub_cells back x) ≡ sbox back (nibble k x)
  unfolding sub_cells
  sub_cells-at x k l = digit-scatter 4 (λ j. sbox back (nibble j x)) (λ j. j) 32 k k (sbox-lt x) l refl (λ i m e. e)

  pub sub_cells-lt : (x : ℕ) → sub_cells back x < 2 ^ 128
  unfolding sub_cells
  sub_cells-lt x = scatter-lt 4 (λ j. sbox back (nibble j x)) (λ j. j) 32 32 (sbox-lt x) (λ j l. l)

pub sub_cells-undone : (back : Bool) (x : ℕ) → x < 2 ^ 128 → sub_cells (not back) (sub_cells back x) ≡ x
sub_cells-undone back x h =
    digit-ext 16 32 (sub_cells (not back) (sub_cells back x)) x (zero-lt-suc 15)
    (sub_cells-lt (not back) (sub_cells back x)) h
    (λ k l. sub_cells-at (not back) (sub_cells back x) k l ∙ ap (sbox (not back)) (sub_cells-at back x k l)
    ∙ (sbox-undoes back (nibble k x) (nibble-lt k x)).1)

-- ---- the bit move

-- where bit k comes from
comes_from : ℕ → ℕ
comes_from k = 16 * (k % 32 / 4) + 4 * ((3 * (k / 32) + k % 4) % 4) + k % 4

place-there : Undoes place comes_from 128
unfolding place comes_from
place-there = undoes place comes_from 128 tt

place-back : Undoes comes_from place 128
unfolding place comes_from
place-back = undoes comes_from place 128 tt

stays : Undoes (λ i. i) (λ i. i) 128
stays i h = (h, refl)

pub place-lt : (i : ℕ) → i < 128 → place i < 128
place-lt i h = (place-there i h).0

-- bit f i of x at t i
abbrev carried : (ℕ → ℕ) → (ℕ → ℕ) → ℕ → ℕ
carried f t x = xsum (λ i. bit (f i) x * 2 ^ t i) 128

bit-lt : (f : ℕ → ℕ) (x i : ℕ) → bit (f i) x < 2
bit-lt f x i = mod-lt (x / 2 ^ f i) (zero-lt-suc 1)

module _ (f t t' : ℕ → ℕ) (tt' : Undoes t t' 128) (x : ℕ) where
  carried-at : (j : ℕ) → j < 128 → bit (t j) (carried f t x) ≡ bit (f j) x
  carried-at j l =
      digit-scatter 1 (λ i. bit (f i) x) t 128 (t j) j (bit-lt f x) l refl
      (λ i k e. sym (tt' i k).1 ∙ ap t' e ∙ (tt' j l).1)

  carried-lt : carried f t x < 2 ^ 128
  carried-lt = scatter-lt 1 (λ i. bit (f i) x) t 128 128 (bit-lt f x) (λ i l. (tt' i l).0)

carried-undone : (f f' t t' : ℕ → ℕ) → Undoes f f' 128 → Undoes f' f 128 → Undoes t t' 128 → (x : ℕ) → x < 2 ^ 128
    → carried t f (carried f t x) ≡ x
carried-undone f f' t t' ff' f'f tt' x h =
    digit-ext 2 128 (carried t f (carried f t x)) x (zero-lt-suc 1) (carried-lt t f f' ff' (carried f t x)) h
    (λ k l.
    ap (λ (i : ℕ). bit i (carried t f (carried f t x))) (sym (f'f k l).1)
    ∙ carried-at t f f' ff' (carried f t x) (f' k) (f'f k l).0
    ∙ carried-at f t t' tt' x (f' k) (f'f k l).0
    ∙ ap (λ (i : ℕ). bit i x) (f'f k l).1)

pub perm_bits-lt : (back : Bool) (x : ℕ) → perm_bits back x < 2 ^ 128
unfolding perm_bits
perm_bits-lt false x = carried-lt (λ i. i) place comes_from place-there x
perm_bits-lt true x = carried-lt place (λ i. i) (λ i. i) stays x

pub perm_bits-undone : (back : Bool) (x : ℕ) → x < 2 ^ 128 → perm_bits (not back) (perm_bits back x) ≡ x
unfolding perm_bits
perm_bits-undone false = carried-undone (λ i. i) (λ i. i) place comes_from stays stays place-there
perm_bits-undone true = carried-undone place comes_from (λ i. i) (λ i. i) place-there place-back stays
