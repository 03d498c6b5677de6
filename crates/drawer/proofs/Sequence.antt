-- Numbers handed out one after another from one start never repeat, and the count says how many there were.
use mathlib.Core.Path.{◌≡◌, refl, sym, ap, ◌∙◌}
use mathlib.Core.Bool.{Bool, true, false, cond}
use mathlib.Core.List.{List, [], ◌∷◌, ◌++◌, append_assoc}
use Prim.Native.Nat.{ℕ, ◌+◌, ◌-◌, ◌*◌, ◌^◌, ◌<◌, ◌≤◌, min}
use native.Mathlib.Nat.{add-zero}
use native.Mathlib.Omega.{arith}
use borrow.Author.Tests.{ltb-true, ltb-false, le-ltb}
use lib.Dec.{ltb}
use lib.ListN.{length, get_or, drop}
use Rattle.words.specs.Block.{part}
use Rattle.words.specs.Bytes.{number, bytes}
use Rattle.words.specs.Digits.{tab}
use Rattle.words.proofs.Bytes.{number-bytes}
use Rattle.words.proofs.Lists.{tab-from, tab-append, length-tab}
use Rattle.answers.specs.Answers.{answered}
use Rattle.answers.proofs.Answers.{refuse-clear}
use Rattle.drawer.specs.declared.Drawer.{Drawer}
use Rattle.drawer.specs.Drawer.{Use, for_nonce, for_iv, started, nonce, remaining, counts, written, rows, moved}
use Rattle.drawer.specs.Drawer.{drawing}
use Rattle.drawer.specs.Sequence.{numbers, handed_out, after}

-- the numbers of a reader, from a count on
abbrev from : ℕ → ℕ → ℕ → List (List ℕ)
from reader count n = tab (λ c. nonce (started reader c)) count n

-- the numbers at the front of what a draw writes are those of the counts that it takes
written-numbers : (u : Use) (d : Drawer) → tab (λ i. part (written u d) (12 * i) 12) 0 (counts u)
    ≡ from d.reader d.count (counts u)
unfolding tab nonce bytes
written-numbers for_nonce d = refl
written-numbers for_iv d = refl

-- the first of several draws
module _ (u : Use) (us : List Use) (d : Drawer) where
  refused : ltb (remaining d) (counts u) ≡ true
      → (handed_out (u ∷ us) d ≡ handed_out us d) × (after (u ∷ us) d ≡ after us d)
  unfolding drawing handed_out after
  refused e = rw e (refl, refl)

  given : ltb (remaining d) (counts u) ≡ false
      → (handed_out (u ∷ us) d ≡ from d.reader d.count (counts u) ++ handed_out us (moved (counts u) d))
      × (after (u ∷ us) d ≡ after us (moved (counts u) d))
  unfolding drawing handed_out after
  given e = rw e (ap (λ (l : List (List ℕ)). l ++ handed_out us (moved (counts u) d)) (written-numbers u d), refl)

-- a draw for a nonce, where one is left: its number, and those of the draws behind it
pub first-handed : (d : Drawer) → 1 ≤ remaining d → (us : List Use)
    → handed_out (for_nonce ∷ us) d ≡ nonce d ∷ handed_out us (moved 1 d)
unfolding tab
first-handed d h us = (given for_nonce us d (le-ltb _ _ h)).0

pub drawing-done : (d : Drawer) → 1 ≤ remaining d
    → drawing for_nonce d ≡ answered 0 (record { bytes = nonce d; next = moved 1 d })
unfolding drawing
drawing-done d h = refuse-clear _ _ (rows 1 d) (le-ltb _ _ h, tt)

-- a list of draws, cut in two
pub handed-append : (us vs : List Use) (d : Drawer)
    → handed_out (us ++ vs) d ≡ handed_out us d ++ handed_out vs (after us d)
unfolding handed_out after
handed-append [] vs d = refl
handed-append (u ∷ us) vs d =
    let first = numbers u (drawing u d) in
    let next = (drawing u d).outcome.next in
    ap (λ (l : List (List ℕ)). first ++ l) (handed-append us vs next)
    ∙ sym (append_assoc first (handed_out us next) (handed_out vs (after us next)))

-- how many counts draws take where n are left: each as many as it asks for, or none where fewer are left
abbrev taken : List Use → ℕ → ℕ
taken [] n = 0
taken (u ∷ us) n = cond (ltb n (counts u)) (taken us n) (counts u + taken us (n - counts u))

-- what draws from d hand out: numbers of the counts from its own on; and the drawer after them
abbrev Counted : List Use → Drawer → Type 0
Counted us d =
    let n = taken us (remaining d) in
    (handed_out us d ≡ from d.reader d.count n) × (after us d ≡ moved n d) × (n ≤ remaining d)

counted : (us : List Use) (d : Drawer) → Counted us d
unfolding tab handed_out after
counted [] d = rw add-zero (refl, refl, omega arith)
counted (u ∷ us) d = by (ltb (remaining d) (counts u)) refl (counted us d) (counted us (moved (counts u) d))
  where
    by : (t : Bool) → ltb (remaining d) (counts u) ≡ t → Counted us d → Counted us (moved (counts u) d)
        → Counted (u ∷ us) d
    by true e k m = rw e ((refused u us d e).0 ∙ k.0, (refused u us d e).1 ∙ k.1, k.2)
    by false e k m =
        let c = counts u in
        let h : c ≤ remaining d = ltb-false _ _ e in
        let l : remaining d - c ≡ remaining (moved c d) = omega arith in
        let n = taken us (remaining (moved c d)) in
        let s : d.count + (c + n) ≡ d.count + c + n = omega arith in
        rw (e, l, s) (
          (given u us d e).0 ∙ ap (λ (r : List (List ℕ)). from d.reader d.count c ++ r) m.0
              ∙ sym (tab-append (λ i. nonce (started d.reader i)) d.count c n),
          (given u us d e).1 ∙ m.1,
          omega (arith, m.2),
        )

-- ---- the promise: "Draws taken one after another from one start, .. never repeat."

-- the count stands in the last eight bytes
nonce-count : (d : Drawer) → d.count < 2 ^ 64 → number (drop 4 (nonce d)) ≡ d.count
unfolding nonce bytes
nonce-count d h = number-bytes 8 d.count h

module _ (d : Drawer) (h : d.count < 2 ^ 64) (us : List Use) where
  -- how many numbers are handed out: one for each count that is taken
  handed-length : length (handed_out us d) ≡ taken us (remaining d)
  handed-length =
      ap length (counted us d).0 ∙ length-tab (λ c. nonce (started d.reader c)) d.count (taken us (remaining d))

  -- "its count after any draws is its start plus the number of draws given"
  pub count-after : after us d ≡ started d.reader (d.count + length (handed_out us d))
  count-after = (counted us d).1 ∙ ap (λ (n : ℕ). started d.reader (d.count + n)) (sym handed-length)

  handed-at : (i : ℕ) → i < length (handed_out us d)
      → get_or (handed_out us d) i [] ≡ nonce (started d.reader (d.count + i))
  handed-at i l =
      ap (λ (s : List (List ℕ)). get_or s i []) (counted us d).0
      ∙ tab-from (λ c. nonce (started d.reader c)) [] d.count (taken us (remaining d)) i
      (omega (arith, handed-length))

  -- no two of them are equal
  pub never-repeat : (i j : ℕ) → i < length (handed_out us d) → j < length (handed_out us d)
      → get_or (handed_out us d) i [] ≡ get_or (handed_out us d) j [] → i ≡ j
  never-repeat i j li lj e =
      let count_at : (k : ℕ) → k < length (handed_out us d)
      → number (drop 4 (get_or (handed_out us d) k [])) ≡ d.count + k =
      λ k l. ap (λ (s : List ℕ). number (drop 4 s)) (handed-at k l)
      ∙ nonce-count (started d.reader (d.count + k)) (omega (arith, handed-length, (counted us d).2)) in
      let same : d.count + i ≡ d.count + j =
      sym (count_at i li) ∙ ap (λ (s : List ℕ). number (drop 4 s)) e ∙ count_at j lj in
      omega arith

-- while each use takes one count, there are as many as draws, as long as any are left
one : (u : Use) → counts u ≡ 1
one for_nonce = refl
one for_iv = refl

taken-each : (us : List Use) (n : ℕ) → taken us n ≡ min (length us) n
taken-each [] n = omega arith
taken-each (u ∷ us) n = rw (one u) (by (ltb n 1) refl (taken-each us n) (taken-each us (n - 1)))
  where
    by : (t : Bool) → ltb n 1 ≡ t → taken us n ≡ min (length us) n → taken us (n - 1) ≡ min (length us) (n - 1)
        → cond t (taken us n) (1 + taken us (n - 1)) ≡ min (length (u ∷ us)) n
    by true e k m = omega (arith, ltb-true n 1 e)
    by false e k m = omega (arith, ltb-false n 1 e)

pub handed-out : (d : Drawer) → d.count < 2 ^ 64 → (us : List Use)
    → length (handed_out us d) ≡ min (length us) (2 ^ 64 - 1 - d.count)
handed-out d h us = handed-length d h us ∙ taken-each us (remaining d)
