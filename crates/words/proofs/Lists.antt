-- Parts of lists, lists by a rule, and runs of stores.
use mathlib.Core.Path.{◌≡◌, refl, sym, ap, subst, ◌∙◌}
use mathlib.Core.Logic.{⊎_elim}
use mathlib.Core.List.{List, [], ◌∷◌, ◌++◌, append-nil}
use Prim.Native.Nat.{ℕ, zero, suc, ◌+◌, ◌-◌, ◌≤◌, ◌<◌}
use native.Mathlib.Decide.{dec_le}
use native.Mathlib.Nat.{ne_of_lt, eq-or-lt_of_le, zero-add, add-zero, add-suc, suc-add, sub-zero, zero-sub, suc-sub-suc}
use native.Mathlib.Nat.{not-suc-le-zero, le_of_suc-le-suc}
use native.Mathlib.Numerals.{add-one}
use native.Mathlib.Omega.{arith}
use lib.ListN.{length, get_or, take, drop, set, replicate, length-set, length-take, length-drop, drop_of_length-le}
use lib.Seq.{sets, sets-eq, set_out, take-nil, ext_get_or, get_or-set_same, get_or-set_other, drop-set-lt}
use Rattle.words.specs.Digits.{tab}

module _ {A : Type 0} where
  pub take-replicate : (k n : ℕ) (a : A) → k ≤ n → take k (replicate n a) ≡ replicate k a
  take-replicate zero n a h = refl
  take-replicate (suc k) zero a h = absurd (not-suc-le-zero h)
  take-replicate (suc k) (suc n) a h = ap (λ (r : List A). a ∷ r) (take-replicate k n a (le_of_suc-le-suc h))

  pub drop-replicate : (k n : ℕ) (a : A) → drop k (replicate n a) ≡ replicate (n - k) a
  drop-replicate zero n a = rw sub-zero
  drop-replicate (suc k) zero a = rw zero-sub
  drop-replicate (suc k) (suc n) a = rw suc-sub-suc (drop-replicate k n a)

  pub drop-take : (k n : ℕ) (l : List A) → drop k (take n l) ≡ take (n - k) (drop k l)
  drop-take zero n l = rw sub-zero
  drop-take (suc k) zero l = rw zero-sub
  drop-take (suc k) (suc n) [] = rw take-nil
  drop-take (suc k) (suc n) (a ∷ l) = rw suc-sub-suc (drop-take k n l)

  -- a part that is there
  pub length_part : (l : List A) (at n : ℕ) → n ≤ length l - at → length (take n (drop at l)) ≡ n
  length_part l at n h = simp (length-take, length-drop) (omega arith)

  -- ---- lists by a rule

  module _ (f : ℕ → A) where
    pub length-tab : (i n : ℕ) → length (tab f i n) ≡ n
    unfolding tab
    length-tab i zero = refl
    length-tab i (suc n) = ap suc (length-tab (suc i) n)

    -- one part behind the other
    pub tab-append : (i k n : ℕ) → tab f i (k + n) ≡ tab f i k ++ tab f (i + k) n
    unfolding tab
    tab-append i zero n = rw (zero-add, add-zero)
    tab-append i (suc k) n = rw (suc-add, add-suc) (ap (λ (s : List A). f i ∷ s) (tab-append (suc i) k n ∙ rw suc-add))

    -- the first of those that are left
    pub tab-next : (i n : ℕ) → i < n → tab f i (n - i) ≡ f i ∷ tab f (i + 1) (n - (i + 1))
    unfolding tab
    tab-next i n h =
        let e : n - i ≡ suc (n - (i + 1)) = omega arith in
        rw (e, add-one)

  module _ (f : ℕ → A) (d : A) where
    pub tab-from : (i n k : ℕ) → k < n → get_or (tab f i n) k d ≡ f (i + k)
    unfolding tab
    tab-from i zero k h = absurd (not-suc-le-zero h)
    tab-from i (suc n) zero h = ap f (sym (add-zero i))
    tab-from i (suc n) (suc k) h = tab-from (suc i) n k (le_of_suc-le-suc h) ∙ ap f (suc-add i k ∙ sym (add-suc i k))

    pub tab-at : (n k : ℕ) → k < n → get_or (tab f 0 n) k d ≡ f k
    tab-at n k h = tab-from 0 n k h ∙ ap f (zero-add k)

    -- one step of a loop that fills a list from the front
    pub fill-next : (l : List A) (r : ℕ) (a : A) → r < length l → ((j : ℕ) → j < r → get_or l j d ≡ f j) → a ≡ f r
        → (j : ℕ) → j < r + 1 → get_or (set l r a) j d ≡ f j
    fill-next l r a h below e j m =
        ⊎_elim
        (λ q. ap (λ (x : ℕ). get_or (set l r a) x d) q ∙ get_or-set_same l r a d h ∙ e ∙ ap f (sym q))
        (λ q. get_or-set_other l r j a d (ne_of_lt q) ∙ below j q)
        (eq-or-lt_of_le (le_of_suc-le-suc (subst (λ (x : ℕ). j < x) (add-one r) m)))

    -- and its end
    pub fill_end : (l : List A) (n : ℕ) → length l ≡ n → ((j : ℕ) → j < n → get_or l j d ≡ f j) → l ≡ tab f 0 n
    fill_end l n e h =
        ext_get_or d l (tab f 0 n) (e ∙ sym (length-tab f 0 n))
        (λ j k. let m : j < n = omega arith in h j m ∙ sym (tab-at n j m))

  -- ---- runs of stores

  -- one run after the other
  pub sets-append : (l : List A) (i : ℕ) (a b : List A) → sets (sets l i a) (i + length a) b ≡ sets l i (a ++ b)
  sets-append l i [] b = rw add-zero
  sets-append l i (x ∷ a) b = rw (add-suc, ← suc-add i (length a)) (sets-append (set l i x) (suc i) a b)

  -- what lies behind a run is as it was
  pub drop-sets : (l : List A) (i : ℕ) (vs : List A) (k : ℕ) → i + length vs ≤ k → drop k (sets l i vs) ≡ drop k l
  drop-sets l i [] k h = refl
  drop-sets l i (a ∷ vs) k h = drop-sets (set l i a) (suc i) vs k (omega arith) ∙ drop-set-lt k l i a (omega arith)

  sets-out : (l : List A) (i : ℕ) (vs : List A) → length l ≤ i → sets l i vs ≡ l
  sets-out l i [] h = refl
  sets-out l i (a ∷ vs) h = sets-out (set l i a) (suc i) vs (rw length-set (omega arith)) ∙ set_out l i a h

  -- what would lie past the end is not stored
  pub sets-cut : (l : List A) (i : ℕ) (vs : List A) → sets l i vs ≡ sets l i (take (length l - i) vs)
  sets-cut l i [] = rw take-nil
  sets-cut l i (a ∷ vs) =
      elim (dec_le (length l) i) [
        | yes h ↦ let e : length l - i ≡ 0 = omega arith in rw e (sets-out l i (a ∷ vs) h)
        | no h ↦
            let e : length l - i ≡ suc (length l - suc i) = omega arith in
            rw e (sets-cut (set l i a) (suc i) vs ∙ rw length-set)
      ]

  -- a list as long or longer, stored from the front
  pub sets-whole : (l vs : List A) → length l ≤ length vs → sets l 0 vs ≡ take (length l) vs
  sets-whole l vs h =
      let k : length (take (length l) vs) ≡ length l = simp length-take (omega arith) in
      sets-cut l 0 vs ∙ rw sub-zero (sets-eq (take (length l) vs) l 0 (omega arith)
      ∙ rw (zero-add, k, drop_of_length-le l {i = length l} (omega arith)) (append-nil (take (length l) vs)))

-- a list is that of its elements
pub listed : (l : List ℕ) (n : ℕ) → length l ≡ n → l ≡ tab (λ j. get_or l j 0) 0 n
listed l n e = fill_end (λ j. get_or l j 0) 0 l n e (λ j h. refl)
