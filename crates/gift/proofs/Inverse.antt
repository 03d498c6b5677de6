-- Enciphering and deciphering undo each other, whichever comes first.
use mathlib.Core.Path.{◌≡◌, refl, ap, ◌∙◌}
use mathlib.Core.Bool.{Bool, true, false, cond, not}
use Prim.Native.Nat.{ℕ, zero, suc, ◌+◌, ◌-◌, ◌*◌, ◌^◌, ◌≤◌, ◌<◌}
use native.Mathlib.Nat.{zero-lt-suc, mod-lt, suc-sub-suc}
use native.Mathlib.Omega.{arith}
use lib.Bits.{bit_xor, xor_lt}
use lib.Dec.{lit<, lit≤}
use Rattle.words.specs.Iterate.{iterate}
use Rattle.words.proofs.ExclusiveOr.{xor-undo}
use Rattle.words.proofs.Sums.{scatter-lt}
use Rattle.words.proofs.Tests.{cond-lt}
use Rattle.words.proofs.Iterate.{iterate-same}
use Rattle.gift.specs.Gift.{bit, sub_cells, perm_bits, spread, key_bits, const_bits, key_u, key_v, key_at, round_const}
use Rattle.gift.specs.Gift.{round_key, round, rounds, forty, cipher, encipher, decipher}
use Rattle.gift.proofs.Steps.{sub_cells-lt, sub_cells-undone, perm_bits-lt, perm_bits-undone}

-- ---- what a round adds is a block, whatever the key

spread-lt : (o n u : ℕ) → o < 4 → n ≤ 32 → spread o n u < 2 ^ 128
unfolding spread
spread-lt o n u h m =
    scatter-lt 1 (λ i. bit i u) (λ i. 4 * i + o) n 128 (λ i. mod-lt _ (zero-lt-suc 1)) (λ i l. omega arith)

round_key-lt : (k r : ℕ) → round_key k r < 2 ^ 128
unfolding round_key key_bits const_bits
round_key-lt k r =
    xor_lt 128 _ _
    (xor_lt 128 _ _ (spread-lt 2 32 (key_u (key_at k r)) (lit< tt) (lit≤ tt))
    (spread-lt 1 32 (key_v (key_at k r)) (lit< tt) (lit≤ tt)))
    (xor_lt 128 (2 ^ 127) _ (lit< tt) (spread-lt 3 6 (round_const (suc r)) (lit< tt) (lit≤ tt)))

-- ---- a round

-- both ways, in the order of their steps
pub round_is : (a x : ℕ) → (bit_xor (perm_bits false (sub_cells false x)) a ≡ round false a x)
    × (sub_cells true (perm_bits true (bit_xor x a)) ≡ round true a x)
unfolding round
round_is a x = (refl, refl)

round-lt : (back : Bool) (a x : ℕ) → a < 2 ^ 128 → round back a x < 2 ^ 128
unfolding round
round-lt false a x h = xor_lt 128 (perm_bits false (sub_cells false x)) a (perm_bits-lt false (sub_cells false x)) h
round-lt true a x h = sub_cells-lt true (perm_bits true (bit_xor x a))

round-undone : (back : Bool) (a x : ℕ) → a < 2 ^ 128 → x < 2 ^ 128 → round (not back) a (round back a x) ≡ x
unfolding round
round-undone false a x ha h =
    ap (λ (y : ℕ). sub_cells true (perm_bits true y)) (xor-undo (perm_bits false (sub_cells false x)) a)
    ∙ ap (sub_cells true) (perm_bits-undone false (sub_cells false x) (sub_cells-lt false x))
    ∙ sub_cells-undone false x h
round-undone true a x ha h =
    ap (λ (y : ℕ). bit_xor (perm_bits false y) a)
    (sub_cells-undone true (perm_bits true (bit_xor x a)) (perm_bits-lt true (bit_xor x a)))
    ∙ ap (λ (y : ℕ). bit_xor y a) (perm_bits-undone true (bit_xor x a) (xor_lt 128 x a h ha))
    ∙ xor-undo x a

-- ---- all rounds

rounds-same : (back : Bool) (a b : ℕ → ℕ) (n x : ℕ) → ((r : ℕ) → r < n → a r ≡ b r)
    → rounds back a n x ≡ rounds back b n x
rounds-same back a b n x h =
    iterate-same (λ r. round back (a r)) (λ r. round back (b r)) n x (λ r y l. ap (λ (z : ℕ). round back z y) (h r l))

-- the first round by itself
rounds-first : (back : Bool) (a : ℕ → ℕ) (n x : ℕ)
    → rounds back a (suc n) x ≡ rounds back (λ r. a (suc r)) n (round back (a 0) x)
unfolding iterate
rounds-first back a zero x = refl
rounds-first back a (suc n) x = ap (round back (a (suc n))) (rounds-first back a n x)

rounds-lt : (back : Bool) (a : ℕ → ℕ) (n x : ℕ) → ((r : ℕ) → a r < 2 ^ 128) → x < 2 ^ 128 → rounds back a n x < 2 ^ 128
unfolding iterate
rounds-lt back a zero x small h = h
rounds-lt back a (suc n) x small h = round-lt back (a n) (rounds back a n x) (small n)

-- n rounds, and the same from the last on the other way
rounds-undone : (back : Bool) (a : ℕ → ℕ) (n x : ℕ) → ((r : ℕ) → a r < 2 ^ 128) → x < 2 ^ 128
    → rounds (not back) (λ r. a (n - suc r)) n (rounds back a n x) ≡ x
unfolding iterate
rounds-undone back a zero x small h = refl
rounds-undone back a (suc n) x small h =
    let y = rounds back a n x in
    let e : suc n - 1 ≡ n = omega arith in
    rounds-first (not back) (λ r. a (suc n - suc r)) n (round back (a n) y)
    ∙ ap (λ (i : ℕ). rounds (not back) (λ r. a (suc n - suc (suc r))) n (round (not back) (a i) (round back (a n) y))) e
    ∙ ap (rounds (not back) (λ r. a (suc n - suc (suc r))) n)
    (round-undone back (a n) y (small n) (rounds-lt back a n x small h))
    ∙ rounds-same (not back) (λ r. a (suc n - suc (suc r))) (λ r. a (n - suc r)) n y
    (λ r l. ap a (suc-sub-suc n (suc r)))
    ∙ rounds-undone back a n x small h

-- ---- forty

index-twice : (back : Bool) (r : ℕ) → r < 40 → cond (not back) (39 - r) r ≡ cond back (39 - (40 - suc r)) (40 - suc r)
index-twice false r h = omega arith
index-twice true r h = omega arith

pub forty-same : (back : Bool) (a b : ℕ → ℕ) (x : ℕ) → ((r : ℕ) → r < 40 → a r ≡ b r) → forty back a x ≡ forty back b x
unfolding forty
forty-same back a b x h =
    rounds-same back (λ r. a (cond back (39 - r) r)) (λ r. b (cond back (39 - r) r)) 40 x
    (λ r l. let e : 39 - r < 40 = omega arith in h (cond back (39 - r) r) (cond-lt back e l))

module _ (back : Bool) (a : ℕ → ℕ) (x : ℕ) (small : (r : ℕ) → a r < 2 ^ 128) (h : x < 2 ^ 128) where
  forty-lt : forty back a x < 2 ^ 128
  unfolding forty
  forty-lt = rounds-lt back (λ r. a (cond back (39 - r) r)) 40 x (λ r. small (cond back (39 - r) r)) h

  forty-undone : forty (not back) a (forty back a x) ≡ x
  unfolding forty
  forty-undone =
      let b : ℕ → ℕ = λ r. a (cond back (39 - r) r) in
      rounds-same (not back) (λ r. a (cond (not back) (39 - r) r)) (λ r. b (40 - suc r)) 40 (rounds back b 40 x)
      (λ r l. ap a (index-twice back r l))
      ∙ rounds-undone back b 40 x (λ r. small (cond back (39 - r) r)) h

-- for every key and every block below 2 ^ 128
module _ (back : Bool) (k x : ℕ) (h : x < 2 ^ 128) where
  pub cipher-lt : cipher back k x < 2 ^ 128
  unfolding cipher
  cipher-lt = forty-lt back (round_key k) x (round_key-lt k) h

  pub cipher-undone : cipher (not back) k (cipher back k x) ≡ x
  unfolding cipher
  cipher-undone = forty-undone back (round_key k) x (round_key-lt k) h

pub decipher-encipher : (k x : ℕ) → x < 2 ^ 128 → decipher k (encipher k x) ≡ x
decipher-encipher = cipher-undone false

pub encipher-decipher : (k x : ℕ) → x < 2 ^ 128 → encipher k (decipher k x) ≡ x
encipher-decipher = cipher-undone true
