-- Sums of byte lists by exclusive or.
use mathlib.Core.Path.{◌≡◌, refl, ap, ap₂, ◌∙◌}
use mathlib.Core.List.{List, [], ◌∷◌, ◌++◌, append-nil}
use Prim.Native.Nat.{ℕ, zero, suc, ◌+◌, ◌-◌, ◌/◌, ◌≤◌, ◌<◌, min}
use native.Mathlib.Decide.{dec_le}
use native.Mathlib.Nat.{zero-add, suc-add, suc_inj, not-suc-le-zero, le_of_suc-le-suc}
use native.Mathlib.Numerals.{add-one}
use native.Mathlib.Omega.{arith}
use lib.Bits.{bit_xor, xor_lt, xor_mod, xor_shr}
use lib.ListN.{length, get_or, take, drop, set, replicate, length-take, length-drop, take-append-drop}
use lib.ListN.{drop_of_length-le}
use lib.Seq.{drop-cons, get_or-take, get_or-drop, take_all}
use Rattle.words.specs.Block.{part}
use Rattle.words.specs.Bytes.{Bytes, bytes, plus, plus_at}
use Rattle.words.proofs.ExclusiveOr.{xor-undo}

pub plus_none : (s : List ℕ) → plus s [] ≡ s
unfolding plus
plus_none [] = refl
plus_none (b ∷ s) = refl

pub length-plus : (s t : List ℕ) → length (plus s t) ≡ length s
unfolding plus
length-plus [] t = refl
length-plus (b ∷ s) [] = refl
length-plus (b ∷ s) (c ∷ t) = ap suc (length-plus s t)

-- what is added twice is gone
pub plus-twice : (s t : List ℕ) → plus (plus s t) t ≡ s
unfolding plus
plus-twice [] t = refl
plus-twice (b ∷ s) [] = refl
plus-twice (b ∷ s) (c ∷ t) = ap₂ ◌∷◌ (xor-undo b c) (plus-twice s t)

-- part by part
pub plus-append : (a b x y : List ℕ) → length a ≡ length x → plus (a ++ b) (x ++ y) ≡ plus a x ++ plus b y
unfolding plus
plus-append [] b [] y e = refl
plus-append [] b (q ∷ x) y e = absurd (omega arith)
plus-append (p ∷ a) b [] y e = absurd (omega arith)
plus-append (p ∷ a) b (q ∷ x) y e = ap (λ (r : List ℕ). bit_xor p q ∷ r) (plus-append a b x y (suc_inj e))

-- to the first k bytes
pub plus-take : (k : ℕ) (s t : List ℕ) → plus (take k s) t ≡ take k (plus s t)
unfolding plus
plus-take zero s t = refl
plus-take (suc k) [] t = refl
plus-take (suc k) (b ∷ s) [] = refl
plus-take (suc k) (b ∷ s) (c ∷ t) = ap (λ (r : List ℕ). bit_xor b c ∷ r) (plus-take k s t)

-- of bytes
pub bytes-plus : (s t : List ℕ) → Bytes s → Bytes t → Bytes (plus s t)
unfolding plus
bytes-plus [] t hs ht i = hs i
bytes-plus (b ∷ s) [] hs ht i = hs i
bytes-plus (b ∷ s) (c ∷ t) hs ht zero = xor_lt 8 b c (hs 0) (ht 0)
bytes-plus (b ∷ s) (c ∷ t) hs ht (suc i) = bytes-plus s t (λ j. hs (suc j)) (λ j. ht (suc j)) i

-- the bytes of a sum
pub bytes-xor : (n x y : ℕ) → bytes n (bit_xor x y) ≡ plus (bytes n x) (bytes n y)
unfolding plus bytes
bytes-xor zero x y = refl
bytes-xor (suc n) x y = ap₂ ◌∷◌ (xor_mod x y 8) (ap (bytes n) (xor_shr x y 8) ∙ bytes-xor n (x / 256) (y / 256))

-- to zeros
pub plus-zeros : (n : ℕ) (t : List ℕ) → length t ≡ n → plus (replicate n 0) t ≡ t
unfolding plus
plus-zeros zero [] e = refl
plus-zeros zero (c ∷ t) e = absurd (omega arith)
plus-zeros (suc n) [] e = absurd (omega arith)
plus-zeros (suc n) (c ∷ t) e = ap (λ (r : List ℕ). c ∷ r) (plus-zeros n t (suc_inj e))

-- ---- from a place on

pub plus_at-first : (s t : List ℕ) → plus_at 0 s t ≡ plus s t
unfolding plus_at
plus_at-first s t = refl

pub plus_at-none : (at : ℕ) (s : List ℕ) → plus_at at s [] ≡ s
unfolding plus_at
plus_at-none at s = ap (λ (r : List ℕ). take at s ++ r) (plus_none (drop at s)) ∙ take-append-drop at s

plus_at-past : (at : ℕ) (s t : List ℕ) → length s ≤ at → plus_at at s t ≡ s
unfolding plus plus_at
plus_at-past at s t h = rw (drop_of_length-le s {i = at} h, take_all at s h) (append-nil s)

-- two lists one after the other
after : (s t u : List ℕ) → plus_at (length t) (plus s t) u ≡ plus s (t ++ u)
unfolding plus plus_at
after [] [] u = refl
after [] (c ∷ t) u = refl
after (b ∷ s) [] u = refl
after (b ∷ s) (c ∷ t) u = ap (λ (r : List ℕ). bit_xor b c ∷ r) (after s t u)

pub plus_at-append : (at : ℕ) (s t u : List ℕ) → plus_at (at + length t) (plus_at at s t) u ≡ plus_at at s (t ++ u)
unfolding plus plus_at
plus_at-append zero s t u = rw zero-add (after s t u)
plus_at-append (suc at) [] t u = rw suc-add
plus_at-append (suc at) (b ∷ s) t u = rw suc-add (ap (λ (r : List ℕ). b ∷ r) (plus_at-append at s t u))

-- ---- one byte after the other

plus_at-set : (at : ℕ) (s : List ℕ) (c : ℕ) (t : List ℕ) → at < length s
    → plus_at (suc at) (set s at (bit_xor (get_or s at 0) c)) t ≡ plus_at at s (c ∷ t)
unfolding plus plus_at
plus_at-set at [] c t h = absurd (not-suc-le-zero h)
plus_at-set zero (b ∷ s) c t h = refl
plus_at-set (suc at) (b ∷ s) c t h = ap (λ (r : List ℕ). b ∷ r) (plus_at-set at s c t (le_of_suc-le-suc h))

module _ (t : List ℕ) (from n at i : ℕ) where
  -- one step of a loop that adds a part of t
  pub plus_at-next : (s l : List ℕ) → i < n → from + i < length t → at + i < length s
      → plus_at (at + i) s (drop i (part t from n)) ≡ l
      → plus_at (at + (i + 1)) (set s (at + i) (bit_xor (get_or s (at + i) 0) (get_or t (from + i) 0)))
      (drop (i + 1) (part t from n)) ≡ l
  plus_at-next s l hn ht hs e =
      let p = part t from n in
      let lp : length p ≡ min n (length t - from) = simp (length-take, length-drop) in
      let ei : at + (i + 1) ≡ suc (at + i) = omega arith in
      let eb : get_or p i 0 ≡ get_or t (from + i) 0 = get_or-take n (drop from t) i 0 hn ∙ get_or-drop from t i 0 in
      rw (ei, add-one, ← eb) (plus_at-set (at + i) s (get_or p i 0) (drop (suc i) p) hs
      ∙ rw (drop-cons p i 0 (omega arith)) at e)

  -- and its end, where one of them has no more
  pub plus_at-end : (s : List ℕ) (m : ℕ) → m ≡ min (length s - at) (min n (length t - from)) → m ≤ i
      → plus_at (at + i) s (drop i (part t from n)) ≡ s
  plus_at-end s m e h =
      let p = part t from n in
      let lp : length p ≡ min n (length t - from) = simp (length-take, length-drop) in
      elim (dec_le (length s) (at + i)) [
        | yes k ↦ plus_at-past (at + i) s (drop i p) k
        | no k ↦ ap (plus_at (at + i) s) (drop_of_length-le p {i = i} (omega arith)) ∙ plus_at-none (at + i) s
      ]
