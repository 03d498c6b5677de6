-- A block and its number, each undoing the other; exclusive or of blocks; a block of sixteen bytes.
use mathlib.Core.Path.{◌≡◌, sym, ap, ap₂, ◌∙◌, subst}
use mathlib.Core.List.{List, ◌++◌, append-nil}
use Prim.Native.Nat.{ℕ, ◌+◌, ◌-◌, ◌*◌, ◌^◌, ◌≤◌, ◌<◌, min}
use native.Mathlib.Decide.{dec_le}
use native.Mathlib.Omega.{arith}
use lib.Arith.{digits_lt}
use lib.Bits.{bit_xor, xor_block}
use lib.ListN.{length, take, drop, length-take, length-drop, length-append}
use lib.Pow.{split, high, low}
use lib.Dec.{lit<}
use lib.Seq.{drop-drop, sets, sets-eq, take_all, take_at, take-append-le, take-append-add}
use Rattle.words.specs.declared.Block.{Block}
use Rattle.words.specs.Block.{value, halves, part, loaded, stored}
use Rattle.words.specs.Bytes.{Bytes, number, bytes, filled}
use Rattle.words.specs.Digits.{xsum}
use Rattle.words.proofs.Sums.{xsum-next}
use Rattle.words.proofs.Lists.{length_part, drop-take, sets-append, sets-cut, sets-whole}
use Rattle.words.proofs.Bytes.{bytes_take, bytes_drop, bytes-filled, number_lt, number-split, number-zeros}
use Rattle.words.proofs.Bytes.{length-bytes, bytes-number, take-bytes, bytes-append, length-filled, filled-same}
use Rattle.words.proofs.Bytes.{filled-full, take-filled, drop-filled, drop-filled-past}

pub value-halves : (x : ℕ) → value (halves x) ≡ x
unfolding value halves
value-halves x = split x 64

pub value-lt : (b : Block) → b.lo < 2 ^ 64 → b.hi < 2 ^ 64 → value b < 2 ^ 128
unfolding value
value-lt b hl hh = digits_lt hh hl

-- the block of two halves
pub halves-pair : (hi lo : ℕ) → lo < 2 ^ 64 → halves (hi * 2 ^ 64 + lo) ≡ record { lo = lo; hi = hi }
unfolding halves
halves-pair hi lo h = rw (high hi 64 h, low hi 64 h)

pub halves-value : (b : Block) → b.lo < 2 ^ 64 → halves (value b) ≡ b
unfolding value
halves-value b h = halves-pair b.hi b.lo h

pub value-is : {b : Block} {x : ℕ} → b ≡ halves x → value b ≡ x
value-is {b} {x} e = ap value e ∙ value-halves x

-- a block that is known by its number is known whole
pub whole : (b : Block) {x : ℕ} → b.lo < 2 ^ 64 → value b ≡ x → b ≡ halves x
whole b h e = sym (halves-value b h) ∙ ap halves e

pub xor-halves : (a b : Block) → a.lo < 2 ^ 64 → b.lo < 2 ^ 64
    → value (record { lo = bit_xor a.lo b.lo; hi = bit_xor a.hi b.hi }) ≡ bit_xor (value a) (value b)
unfolding value
xor-halves a b ha hb = sym (xor_block 64 a.hi b.hi a.lo b.lo ha hb)

-- one step of a loop that sums by exclusive or into a block
pub sum-next : (f : ℕ → ℕ) (i : ℕ) {acc next : Block} {v : ℕ} → acc ≡ halves (xsum f i)
    → next ≡ halves (bit_xor (value acc) v) → v ≡ f i
    → next ≡ halves (xsum f (i + 1))
sum-next f i ea en ev = en ∙ ap halves (ap₂ bit_xor (value-is ea) ev ∙ sym (xsum-next f i))

-- ---- the block of sixteen bytes

number-halves : (s : List ℕ) → Bytes s → length s ≡ 16
    → halves (number s) ≡ record { lo = number (take 8 s); hi = number (drop 8 s) }
number-halves s h e =
    let l : length (take 8 s) ≡ 8 = simp length-take (omega arith) in
    ap halves (number-split 8 s)
    ∙ halves-pair (number (drop 8 s)) (number (take 8 s))
    (subst (λ (n : ℕ). number (take 8 s) < 256 ^ n) l (number_lt (take 8 s) (bytes_take 8 s h)))

module _ (s : List ℕ) (h : Bytes s) (t : ℕ) (small : t < 256) (at n m : ℕ) (e : m ≡ min n (min 16 (length s - at)))
  where
    cut : halves (number (filled t 16 (part s at n))) ≡ halves (number (filled t 16 (part s at m)))
    cut = ap (λ (l : List ℕ). halves (number l)) (filled-same t 16 n m (drop at s) (rw length-drop (omega arith)))

    halved : halves (number (filled t 16 (part s at n)))
        ≡ record { lo = number (filled t 8 (part s at m)); hi = number (drop 8 (filled t 16 (part s at m))) }
    halved =
        let d = part s at m in
        cut
        ∙ number-halves (filled t 16 d) (bytes-filled t 16 d small (bytes_take m (drop at s) (bytes_drop at s h)))
        (length-filled t 16 d)
        ∙ rw (take-filled t 8 16 d (omega arith))

    there : length (part s at m) ≡ m
    there = length_part s at m (omega arith)

    pub gathered-short : m < 8 → halves (number (filled t 16 (part s at n)))
        ≡ record { lo = number (filled t 8 (part s at m)); hi = 0 }
    gathered-short k = halved ∙ rw (drop-filled-past t 8 16 (part s at m) (omega (arith, there)), number-zeros 8)

    pub gathered-long : 8 ≤ m → halves (number (filled t 16 (part s at n)))
        ≡ record { lo = number (filled t 8 (part s at 8)); hi = number (filled t 8 (part s (at + 8) (m - 8))) }
    gathered-long k =
        halved
        ∙ rw (
          filled-same t 8 m 8 (drop at s) (rw length-drop (omega arith)),
          drop-filled t 8 16 (part s at m) (omega (arith, there)),
          drop-take 8 m (drop at s),
          drop-drop,
        )

-- all of them
pub loaded-all : (s : List ℕ) → length s ≡ 16 → loaded s 0 16 ≡ number s
unfolding loaded
loaded-all s e = ap number (ap (filled 0 16) (take_all 16 s (omega arith)) ∙ filled-full 0 16 s e)

-- ---- the first bytes of a block, stored

module _ (s : List ℕ) (b : Block) (small : b.lo < 2 ^ 64) (at n m : ℕ) (e : m ≡ min n (min 16 (length s - at))) where
  sixteen : bytes 16 (value b) ≡ bytes 8 b.lo ++ bytes 8 b.hi
  unfolding value
  sixteen = bytes-append 8 8 b.lo b.hi small

  first : take n (bytes 16 (value b)) ≡ bytes (min n 16) (value b)
  first = take-bytes n 16 (value b)

  stored-first : stored s at n (value b) ≡ sets s at (take m (bytes 8 b.lo ++ bytes 8 b.hi))
  unfolding stored
  stored-first =
      let k : min (length s - at) (min n 16) ≡ min m 16 = omega arith in
      sets-cut s at (take n (bytes 16 (value b)))
      ∙ ap (sets s at)
      (ap (take (length s - at)) first ∙ take-bytes (length s - at) (min n 16) (value b)
      ∙ ap (λ (i : ℕ). bytes i (value b)) k
      ∙ sym (take-bytes m 16 (value b)) ∙ ap (take m) sixteen)

  pub stored_short : m ≤ 8 → stored s at n (value b) ≡ sets s at (bytes m b.lo)
  stored_short h =
      let k : min m 8 ≡ m = omega arith in
      stored-first
      ∙ ap (sets s at)
      (take-append-le m (bytes 8 b.lo) (bytes 8 b.hi) (omega (arith, length-bytes 8 b.lo))
      ∙ take-bytes m 8 b.lo ∙ ap (λ (i : ℕ). bytes i b.lo) k)

  pub stored-long : 8 < m → stored s at n (value b)
      ≡ sets (sets s at (bytes 8 b.lo)) (at + 8) (bytes (m - 8) b.hi)
  stored-long h =
      let l : length (bytes 8 b.lo) ≡ 8 = length-bytes 8 b.lo in
      let k : m ≡ length (bytes 8 b.lo) + (m - 8) = omega arith in
      let i : min (m - 8) 8 ≡ m - 8 = omega arith in
      stored-first
      ∙ ap (sets s at)
      (ap (λ (i : ℕ). take i (bytes 8 b.lo ++ bytes 8 b.hi)) k
      ∙ take-append-add (bytes 8 b.lo) (bytes 8 b.hi) (m - 8)
      ∙ ap (λ (r : List ℕ). bytes 8 b.lo ++ r) (take-bytes (m - 8) 8 b.hi ∙ ap (λ (i : ℕ). bytes i b.hi) i))
      ∙ sym (sets-append s at (bytes 8 b.lo) (bytes (m - 8) b.hi))
      ∙ ap (λ (i : ℕ). sets (sets s at (bytes 8 b.lo)) (at + i) (bytes (m - 8) b.hi)) l

-- all of them
pub stored-all : (s : List ℕ) (x : ℕ) → length s ≡ 16 → stored s 0 16 x ≡ bytes 16 x
unfolding stored
stored-all s x e =
    let l = length-bytes 16 x in
    let k : length s ≤ length (bytes 16 x) = omega arith in
    ap (sets s 0) (take_all 16 (bytes 16 x) (omega arith)) ∙ sets-whole s (bytes 16 x) k
    ∙ take_all (length s) (bytes 16 x) (omega arith)

-- ---- some of the bytes of a block, there and back

-- those that were loaded
pub loaded-back : (s : List ℕ) (at n : ℕ) → Bytes s → n ≤ 16
    → n ≤ length s - at → take n (bytes 16 (loaded s at n)) ≡ part s at n
unfolding loaded
loaded-back s at n h k there =
    let p = part s at n in
    let f = filled 0 16 p in
    let lp : length p ≡ n = length_part s at n there in
    let hf : Bytes f = bytes-filled 0 16 p (lit< tt) (bytes_take n (drop at s) (bytes_drop at s h)) in
    ap (take n) (ap (λ (i : ℕ). bytes i (number f)) (sym (length-filled 0 16 p)) ∙ bytes-number f hf)
    ∙ take-filled 0 n 16 p k ∙ filled-full 0 n p lp

-- those that were stored in room for a block
pub stored_back : (s : List ℕ) (n x : ℕ) → length s ≡ 16 → part (stored s 0 n x) 0 n ≡ take n (bytes 16 x)
unfolding stored
stored_back s n x ls =
    let v = take n (bytes 16 x) in
    let lv : length v ≡ min n 16 = simp (length-take, length-bytes) in
    ap (take n) (sets-eq v s 0 (omega arith)) ∙ front v (drop (0 + length v) s) lv (simp length-drop (omega arith))
  where
    front : (v r : List ℕ) → length v ≡ min n 16 → length r ≡ 16 - length v → take n (v ++ r) ≡ v
    front v r lv lr =
        elim (dec_le n 16) [
          | yes k ↦ take_at v r n (omega arith)
          | no k ↦ take_all n (v ++ r) (simp length-append (omega arith))
              ∙ ap (λ (z : List ℕ). v ++ z) (sym (take_all 0 r (omega arith))) ∙ append-nil v
        ]

-- bytes that are loaded and stored are copied
pub copied : (s room : List ℕ) (at : ℕ) {b : Block} → Bytes s → length s ≤ 16 → b ≡ halves (loaded s 0 (length s))
    → stored room at (length s) (value b) ≡ sets room at s
unfolding stored
copied s room at hs short e =
    ap (λ (x : ℕ). sets room at (take (length s) (bytes 16 x))) (value-is e)
    ∙ ap (sets room at) (loaded-back s 0 (length s) hs short (omega arith) ∙ take_all (length s) s (omega arith))
