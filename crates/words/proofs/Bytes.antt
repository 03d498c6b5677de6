-- Laws on lists of bytes and their numbers.
use mathlib.Core.Path.{◌≡◌, refl, sym, ap, ap₂, ◌∙◌}
use mathlib.Core.List.{List, [], ◌∷◌, ◌++◌}
use Prim.Native.Nat.{ℕ, zero, suc, ◌+◌, ◌*◌, ◌/◌, ◌%◌, ◌^◌, ◌≤◌, ◌<◌, ◌-◌, min}
use native.Mathlib.Nat.{mod-lt, suc_inj, pow-suc, mul_assoc, zero-mul, zero-lt-suc, div-add-mod', div-lt_iff_lt-mul}
use native.Mathlib.Nat.{not-suc-le-zero, le_of_suc-le-suc, zero-add, suc-add, sub-zero, zero-sub, suc-sub-suc}
use native.Mathlib.Omega.{arith}
use lib.Arith.{digits_lt, digits_div, digits_mod, lt-one}
use lib.Dec.{lit<}
use lib.ListN.{length, get_or, take, drop, set, replicate, length-replicate}
use lib.Seq.{drop-cons, sets}
use Rattle.words.specs.Bytes.{Bytes, number, bytes, filled}
use Rattle.words.proofs.Lists.{take-replicate, drop-replicate}

-- ---- parts of a list of bytes

pub bytes_take : (k : ℕ) (s : List ℕ) → Bytes s → Bytes (take k s)
bytes_take zero s h i = lit< tt
bytes_take (suc k) [] h i = h i
bytes_take (suc k) (b ∷ s) h zero = h 0
bytes_take (suc k) (b ∷ s) h (suc i) = bytes_take k s (λ j. h (suc j)) i

pub bytes_drop : (k : ℕ) (s : List ℕ) → Bytes s → Bytes (drop k s)
bytes_drop zero s h = h
bytes_drop (suc k) [] h = h
bytes_drop (suc k) (b ∷ s) h = bytes_drop k s (λ j. h (suc j))

-- ---- a list's number

pub number_lt : (s : List ℕ) → Bytes s → number s < 256 ^ length s
unfolding number
number_lt [] h = lit< tt
number_lt (b ∷ s) h = rw pow-suc (digits_lt (number_lt s (λ j. h (suc j))) (h 0))

pub number-split : (k : ℕ) (s : List ℕ) → number s ≡ number (drop k s) * 256 ^ k + number (take k s)
unfolding number
number-split zero s = omega arith
number-split (suc k) [] = omega (arith, zero-mul (256 ^ suc k))
number-split (suc k) (b ∷ s) =
    omega (
      arith,
      number-split k s,
      ap (λ (x : ℕ). number (drop k s) * x) (pow-suc 256 k),
      mul_assoc (number (drop k s))
          (256 ^ k) 256,
    )

-- the first byte is the lowest
pub number-first : (s : List ℕ) (j : ℕ) → j < length s → number (drop j s)
    ≡ number (drop (suc j) s) * 256 + get_or s j 0
unfolding number
number-first s j h = rw (drop-cons s j 0 h)

pub number-zeros : (n : ℕ) → number (replicate n 0) ≡ 0
unfolding number
number-zeros zero = refl
number-zeros (suc n) = omega (arith, number-zeros n)

-- ---- a number's bytes, there and back

pub length-bytes : (n x : ℕ) → length (bytes n x) ≡ n
unfolding bytes
length-bytes zero x = refl
length-bytes (suc n) x = ap suc (length-bytes n (x / 256))

pub bytes-bytes : (n x : ℕ) → Bytes (bytes n x)
unfolding bytes
bytes-bytes zero x i = lit< tt
bytes-bytes (suc n) x zero = mod-lt x (zero-lt-suc 255)
bytes-bytes (suc n) x (suc i) = bytes-bytes n (x / 256) i

pub number-bytes : (n x : ℕ) → x < 256 ^ n → number (bytes n x) ≡ x
unfolding number bytes
number-bytes zero x h = sym (lt-one h)
number-bytes (suc n) x h =
    ap (λ (z : ℕ). z * 256 + x % 256) (number-bytes n (x / 256)
    ((div-lt_iff_lt-mul (zero-lt-suc 255)).1 (rw pow-suc at h))) ∙ div-add-mod' x 256

pub bytes-number : (s : List ℕ) → Bytes s → bytes (length s) (number s) ≡ s
unfolding number bytes
bytes-number [] h = refl
bytes-number (b ∷ s) h =
    ap₂ ◌∷◌ (digits_mod (number s) (h 0)) (ap (bytes (length s)) (digits_div (number s) (h 0))
    ∙ bytes-number s (λ i. h (suc i)))

-- as many bytes of one number are the same bytes
pub number-inj : (s t : List ℕ) → Bytes s → Bytes t → length s ≡ length t → number s ≡ number t → s ≡ t
number-inj s t hs ht l e = sym (bytes-number s hs) ∙ ap₂ bytes l e ∙ bytes-number t ht

pub take-bytes : (k n x : ℕ) → take k (bytes n x) ≡ bytes (min k n) x
unfolding bytes
take-bytes zero n x = let e : min 0 n ≡ 0 = omega arith in rw e
take-bytes (suc k) zero x = let e : min (suc k) 0 ≡ 0 = omega arith in rw e
take-bytes (suc k) (suc n) x =
    let e : min (suc k) (suc n) ≡ suc (min k n) = omega arith in
    rw e (ap (λ (r : List ℕ). x % 256 ∷ r) (take-bytes k n (x / 256)))

pub bytes-none : (x : ℕ) → bytes 0 x ≡ []
unfolding bytes
bytes-none x = refl

-- one step of a loop that stores a number's bytes
pub put_next : (s l : List ℕ) (at i n x : ℕ) → i < n → sets s (at + i) (bytes (n - i) x) ≡ l
    → sets (set s (at + i) (x % 256)) (at + (i + 1)) (bytes (n - (i + 1)) (x / 256)) ≡ l
unfolding bytes
put_next s l at i n x h e =
    let e1 : n - i ≡ suc (n - (i + 1)) = omega arith in
    let e2 : at + (i + 1) ≡ suc (at + i) = omega arith in
    rw e2 (rw e1 at e)

-- the bytes of a number whose bytes from k on are those of hi
pub bytes-append : (k n lo hi : ℕ) → lo < 256 ^ k → bytes (k + n) (hi * 256 ^ k + lo) ≡ bytes k lo ++ bytes n hi
unfolding bytes
bytes-append zero n lo hi h =
    let e : hi * 256 ^ 0 + lo ≡ hi = omega (arith, lt-one h) in
    rw (zero-add, e)
bytes-append (suc k) n lo hi h =
    let r : lo % 256 < 256 = mod-lt lo (zero-lt-suc 255) in
    let e : hi * 256 ^ suc k + lo ≡ (hi * 256 ^ k + lo / 256) * 256 + lo % 256 =
    omega (arith, ap (λ (x : ℕ). hi * x) (pow-suc 256 k), mul_assoc hi (256 ^ k) 256) in
    rw (suc-add, e, digits_mod (hi * 256 ^ k + lo / 256) r, digits_div (hi * 256 ^ k + lo / 256) r)
    (ap (λ (l : List ℕ). lo % 256 ∷ l) (bytes-append k n (lo / 256) hi
    ((div-lt_iff_lt-mul (zero-lt-suc 255)).1 (rw pow-suc at h))))

-- ---- zeros

bytes-zeros : (n : ℕ) → Bytes (replicate n 0)
bytes-zeros zero i = lit< tt
bytes-zeros (suc n) zero = lit< tt
bytes-zeros (suc n) (suc i) = bytes-zeros n i

-- ---- a list filled up to n bytes

module _ (t : ℕ) where
  pub length-filled : (n : ℕ) (s : List ℕ) → length (filled t n s) ≡ n
  unfolding filled
  length-filled zero s = refl
  length-filled (suc n) [] = ap suc (length-replicate n 0)
  length-filled (suc n) (b ∷ s) = ap suc (length-filled n s)

  -- nothing, filled: t alone, where there is room
  pub number-top : (n : ℕ) → 0 < n → number (filled t n []) ≡ t
  unfolding filled number
  number-top zero h = absurd (not-suc-le-zero h)
  number-top (suc n) h = omega (arith, number-zeros n)

  pub number-no-top : (n : ℕ) → n ≡ 0 → number (filled t n []) ≡ 0
  unfolding filled number
  number-no-top zero h = refl
  number-no-top (suc n) h = absurd (omega arith)

  pub filled_at : (n : ℕ) (s : List ℕ) (j : ℕ) → j < n → j < length s → get_or (filled t n s) j 0 ≡ get_or s j 0
  unfolding filled
  filled_at zero s j h k = absurd (not-suc-le-zero h)
  filled_at (suc n) [] j h k = absurd (not-suc-le-zero k)
  filled_at (suc n) (b ∷ s) zero h k = refl
  filled_at (suc n) (b ∷ s) (suc j) h k = filled_at n s j (le_of_suc-le-suc h) (le_of_suc-le-suc k)

  -- a full one is left
  pub filled-full : (n : ℕ) (s : List ℕ) → length s ≡ n → filled t n s ≡ s
  unfolding filled
  filled-full zero [] e = refl
  filled-full zero (b ∷ s) e = absurd (omega arith)
  filled-full (suc n) [] e = absurd (omega arith)
  filled-full (suc n) (b ∷ s) e = ap (λ (r : List ℕ). b ∷ r) (filled-full n s (suc_inj e))

  filled-least : (n k : ℕ) (s : List ℕ) → filled t n (take k s) ≡ filled t n (take (min k (min n (length s))) s)
  unfolding filled
  filled-least zero k s = refl
  filled-least (suc n) zero s = let e : min 0 (min (suc n) (length s)) ≡ 0 = omega arith in rw e
  filled-least (suc n) (suc k) [] = let e : min (suc k) (min (suc n) 0) ≡ 0 = omega arith in rw e
  filled-least (suc n) (suc k) (b ∷ s) =
      let e : min (suc k) (min (suc n) (suc (length s))) ≡ suc (min k (min n (length s))) = omega arith in
      rw e (ap (λ (r : List ℕ). b ∷ r) (filled-least n k s))

  -- what lies past the n bytes or past the end does not matter
  pub filled-same : (n j k : ℕ) (s : List ℕ) → min j (min n (length s)) ≡ min k (min n (length s))
      → filled t n (take j s) ≡ filled t n (take k s)
  filled-same n j k s e = filled-least n j s ∙ ap (λ (i : ℕ). filled t n (take i s)) e ∙ sym (filled-least n k s)

  pub take-filled : (k n : ℕ) (s : List ℕ) → k ≤ n → take k (filled t n s) ≡ filled t k s
  unfolding filled
  take-filled zero n s h = refl
  take-filled (suc k) zero s h = absurd (not-suc-le-zero h)
  take-filled (suc k) (suc n) [] h = ap (λ (r : List ℕ). t ∷ r) (take-replicate k n 0 (le_of_suc-le-suc h))
  take-filled (suc k) (suc n) (b ∷ s) h = ap (λ (r : List ℕ). b ∷ r) (take-filled k n s (le_of_suc-le-suc h))

  pub drop-filled : (k n : ℕ) (s : List ℕ) → k ≤ length s → drop k (filled t n s) ≡ filled t (n - k) (drop k s)
  unfolding filled
  drop-filled zero n s h = rw sub-zero
  drop-filled (suc k) zero s h = rw zero-sub
  drop-filled (suc k) (suc n) [] h = absurd (not-suc-le-zero h)
  drop-filled (suc k) (suc n) (b ∷ s) h = rw suc-sub-suc (drop-filled k n s (le_of_suc-le-suc h))

  pub drop-filled-past : (k n : ℕ) (s : List ℕ) → length s < k → drop k (filled t n s) ≡ replicate (n - k) 0
  unfolding filled
  drop-filled-past zero n s h = absurd (not-suc-le-zero h)
  drop-filled-past (suc k) zero s h = rw zero-sub
  drop-filled-past (suc k) (suc n) [] h = rw suc-sub-suc (drop-replicate k n 0)
  drop-filled-past (suc k) (suc n) (b ∷ s) h = rw suc-sub-suc (drop-filled-past k n s (le_of_suc-le-suc h))

  pub bytes-filled : (n : ℕ) (s : List ℕ) → t < 256 → Bytes s → Bytes (filled t n s)
  unfolding filled
  bytes-filled zero s small h i = lit< tt
  bytes-filled (suc n) [] small h zero = small
  bytes-filled (suc n) [] small h (suc i) = bytes-zeros n i
  bytes-filled (suc n) (b ∷ s) small h zero = h 0
  bytes-filled (suc n) (b ∷ s) small h (suc i) = bytes-filled n s small (λ j. h (suc j)) i
