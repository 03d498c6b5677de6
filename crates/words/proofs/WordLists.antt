-- Words of w bytes each: one of them read or written as part of a block, and runs of them.
use mathlib.Core.Path.{◌≡◌, refl, sym, ap, ◌∙◌}
use mathlib.Core.List.{List, [], ◌∷◌}
use Prim.Native.Nat.{ℕ, zero, suc, ◌+◌, ◌-◌, ◌*◌, ◌%◌, ◌^◌, ◌≤◌, ◌<◌, min}
use native.Mathlib.Nat.{lt_of_lt_of_le, pow-le-pow_right, mod-eq_of_lt, zero-add, mul-zero, mul-suc}
use native.Mathlib.Numerals.{add-one}
use native.Mathlib.Omega.{arith}
use lib.ListN.{length, get_or, take, drop, length-take, length-append, drop_of_length-le}
use lib.Seq.{drop-cons, take-nil, take_all, sets}
use Rattle.words.specs.declared.Block.{Block}
use Rattle.words.specs.Block.{value, halves, part, loaded, stored}
use Rattle.words.specs.Bytes.{Bytes, number, bytes, filled}
use Rattle.words.specs.Words.{unwords}
use Rattle.words.proofs.Lists.{take-replicate, drop-replicate, sets-append}
use Rattle.words.proofs.Bytes.{bytes_take, bytes_drop, number_lt, number-zeros, length-bytes, take-bytes}
use Rattle.words.proofs.Bytes.{take-filled}

-- ---- one word

-- zeros that fill a list up do not show in its number
number_cut : (n : ℕ) (s : List ℕ) → number (filled 0 n s) ≡ number (take n s)
unfolding number filled
number_cut zero s = refl
number_cut (suc n) [] = omega (arith, number-zeros n)
number_cut (suc n) (b ∷ s) = ap (λ (x : ℕ). x * 256 + b) (number_cut n s)

pub number-filled : (k w n : ℕ) (s : List ℕ) → k + w ≤ n → number (part (filled 0 n s) k w) ≡ number (part s k w)
unfolding filled
number-filled zero w n s h = ap number (take-filled 0 w n s (omega arith)) ∙ number_cut w s
number-filled (suc k) w zero s h = absurd (omega arith)
number-filled (suc k) w (suc n) [] h =
    ap (λ (l : List ℕ). number (take w l)) (drop-replicate k n 0)
    ∙ ap number (take-replicate w (n - k) 0 (omega arith)) ∙ number-zeros w ∙ none
  where
    none : 0 ≡ number (take w [])
    none = sym (ap number (take-nil w) ∙ number-zeros 0)
number-filled (suc k) w (suc n) (b ∷ s) h = number-filled k w n s (omega arith)

-- the number of two bytes
pub number-two : (s : List ℕ) (at : ℕ) → number (part s at 2) ≡ get_or s (at + 1) 0 * 256 + get_or s at 0
unfolding number
number-two s at = rw add-one (two s at)
  where
    two : (s : List ℕ) (at : ℕ) → number (part s at 2) ≡ get_or s (suc at) 0 * 256 + get_or s at 0
    two [] zero = refl
    two (a ∷ []) zero = refl
    two (a ∷ b ∷ s) zero = ap (λ (x : ℕ). x * 256 + a) (zero-add b)
    two [] (suc at) = refl
    two (a ∷ s) (suc at) = two s at

module _ (s : List ℕ) (h : Bytes s) (at n : ℕ) where
  pub word_lt : number (part s at n) < 256 ^ n
  word_lt =
      let l : length (part s at n) ≤ n = simp length-take (omega arith) in
      lt_of_lt_of_le (number_lt (part s at n) (bytes_take n (drop at s) (bytes_drop at s h)))
      (pow-le-pow_right {n = 256} (omega arith) {i = length (part s at n)} {j = n} l)

  -- the low half of a block of at most eight bytes is their number
  pub loaded_word : {b : Block} → b ≡ halves (loaded s at n) → n ≤ 8 → b.lo ≡ number (part s at n)
  unfolding halves loaded
  loaded_word {b} e k =
      let l : length (part s at n) ≤ 16 = simp length-take (omega arith) in
      ap (λ (x : Block). x.lo) e
      ∙ ap (λ (x : ℕ). x % 2 ^ 64) (number_cut 16 (part s at n) ∙ ap number (take_all 16 (part s at n) l))
      ∙ mod-eq_of_lt (lt_of_lt_of_le word_lt (pow-le-pow_right {n = 256} (omega arith) {i = n} {j = 8} k))

-- a word written as the low half of a block
pub stored-word : (s : List ℕ) (at n x : ℕ) → n ≤ 16
    → stored s at n (value (record { lo = x; hi = 0 })) ≡ sets s at (bytes n x)
unfolding stored value
stored-word s at n x h =
    let e : min n 16 ≡ n = omega arith in
    ap (sets s at) (ap (λ (y : ℕ). take n (bytes 16 y)) (omega arith) ∙ take-bytes n 16 x ∙ ap (λ (k : ℕ). bytes k x) e)

-- ---- runs of words

pub length-unwords : (w : ℕ) (xs : List ℕ) → length (unwords w xs) ≡ w * length xs
unfolding unwords
length-unwords w [] = sym (mul-zero w)
length-unwords w (x ∷ xs) = rw (length-append, length-bytes, length-unwords w xs, mul-suc) (omega arith)

-- one step of a loop that stores a list of words
pub words-next : (w i : ℕ) (s s' l xs : List ℕ) → i < length xs → s' ≡ sets s (w * i) (bytes w (get_or xs i 0))
    → sets s (w * i) (unwords w (drop i xs)) ≡ l
    → sets s' (w * (i + 1)) (unwords w (drop (i + 1) xs)) ≡ l
unfolding unwords
words-next w i s s' l xs h e' e =
    let x = get_or xs i 0 in
    let ep : w * (i + 1) ≡ w * i + length (bytes w x) = rw (length-bytes, add-one, mul-suc) in
    rw (ep, add-one, e') (sets-append s (w * i) (bytes w x) (unwords w (drop (suc i) xs))
    ∙ rw (drop-cons xs i 0 h) at e)

-- its start
pub words-first : (w : ℕ) (s xs : List ℕ) → sets s (w * 0) (unwords w (drop 0 xs)) ≡ sets s 0 (unwords w xs)
words-first w s xs = rw mul-zero

-- and its end
pub words-end : (w i : ℕ) (s l xs : List ℕ) → length xs ≤ i → sets s (w * i) (unwords w (drop i xs)) ≡ l → s ≡ l
unfolding unwords
words-end w i s l xs h e = rw (drop_of_length-le xs {i = i} h) at e
