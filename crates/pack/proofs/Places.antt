-- A shuffle without an entry that offends has "every word's place from 0 once".
use mathlib.Core.Path.{◌≡◌, refl, sym, ap, subst, ◌∙◌}
use mathlib.Core.Bool.{Bool, true, false, cond, ◌||◌, true≢false}
use mathlib.Core.List.{List, [], ◌∷◌}
use Prim.Native.Nat.{ℕ, zero, suc, ◌+◌, ◌<◌, ◌≤◌}
use native.Mathlib.Decide.{dec_le, ℕ_discrete}
use native.Mathlib.Omega.{arith}
use lib.Dec.{eqb, leb, ltb}
use lib.ListN.{length, get_or}
use borrow.Author.Tests.{eq-eqb, ne_eqb, leb-false, ltb-false}
use Rattle.words.specs.Search.{place_of}
use Rattle.words.proofs.Search.{place-least}
use Rattle.words.proofs.Tests.{cond_has}
use Rattle.pack.specs.Pack.{offends, first_from, first_bad}
use Rattle.pack.specs.Demands.{Once}

-- ---- different numbers below n are at most n

-- none is x
abbrev Without : ℕ → List ℕ → Type 0
Without x [] = Unit {0}
Without x (y ∷ s) = (y ≡ x → ⊥) × Without x s

abbrev Different : List ℕ → Type 0
Different [] = Unit {0}
Different (x ∷ s) = Without x s × Different s

abbrev Below : ℕ → List ℕ → Type 0
Below n [] = Unit {0}
Below n (x ∷ s) = (x < n) × Below n s

-- the first m taken out
abbrev less : ℕ → List ℕ → List ℕ
less m [] = []
less m (x ∷ s) = cond (eqb x m) s (x ∷ less m s)

-- ---- m taken out of different numbers below m + 1

below_less : (m : ℕ) (s : List ℕ) → Below (suc m) s → Without m s → Below m s
below_less m [] b w = tt
below_less m (x ∷ s) b w = (
  elim (dec_le m x) [ yes h ↦ absurd (w.0 (omega (arith, b.0))) | no h ↦ omega arith ],
  below_less m s b.1 w.1,
)

without-less : (m x : ℕ) (s : List ℕ) → Without x s → Without x (less m s)
without-less m x [] w = tt
without-less m x (y ∷ s) w =
    cond_has (λ (t : List ℕ). Without x t) (eqb y m) w.1 (w.0, without-less m x s w.1)

different-less : (m : ℕ) (s : List ℕ) → Different s → Different (less m s)
different-less m [] d = tt
different-less m (x ∷ s) d =
    cond_has Different (eqb x m) d.1 (without-less m x s d.0, different-less m s d.1)

length-less : (m : ℕ) (s : List ℕ) → length s ≤ suc (length (less m s))
length-less m [] = omega arith
length-less m (x ∷ s) =
    cond_has (λ (t : List ℕ). suc (length s) ≤ suc (length t)) (eqb x m) (omega arith)
    (omega (arith, length-less m s))

less-below : (m : ℕ) (s : List ℕ) → Below (suc m) s → Different s → Below m (less m s)
less-below m [] b d = tt
less-below m (x ∷ s) b d =
    elim (ℕ_discrete x m) [
      | yes e ↦ rw (eq-eqb x m e) (below_less m s b.1 (subst (λ (y : ℕ). Without y s) e d.0))
      | no e ↦ rw (ne_eqb x m e) (below b.0 e, less-below m s b.1 d.1)
    ]
  where
    below : x < suc m → (x ≡ m → ⊥) → x < m
    below h e = elim (dec_le m x) [ yes k ↦ absurd (e (omega arith)) | no k ↦ omega arith ]

few : (n : ℕ) (s : List ℕ) → Below n s → Different s → length s ≤ n
few zero [] b d = omega arith
few zero (x ∷ s) b d = absurd (omega (arith, b.0))
few (suc n) s b d =
    omega (arith, length-less n s, few n (less n s) (less-below n s b d) (different-less n s d))

-- ---- a shuffle's entries

missing : (p : ℕ) (s : List ℕ) → length s ≤ place_of p s → Without p s
unfolding place_of
missing p [] h = tt
missing p (x ∷ s) h =
    elim (ℕ_discrete x p) [
      | yes e ↦ absurd (none e)
      | no e ↦ (e, missing p s (later e))
    ]
  where
    none : x ≡ p → ⊥
    none e = let z : suc (length s) ≤ 0 = rw (eq-eqb x p e) at h in omega arith

    later : (x ≡ p → ⊥) → length s ≤ place_of p s
    later e = let z : suc (length s) ≤ suc (place_of p s) = rw (ne_eqb x p e) at h in omega arith

all-below : (n : ℕ) (s : List ℕ) → ((i : ℕ) → i < length s → get_or s i 0 < n) → Below n s
all-below n [] f = tt
all-below n (x ∷ s) f = (f 0 (omega arith), all-below n s (λ i h. f (suc i) (omega arith)))

abbrev Apart : List ℕ → Type 0
Apart s = (i j : ℕ) → i < j → j < length s → get_or s i 0 ≡ get_or s j 0 → ⊥

all-different : (s : List ℕ) → Apart s → Different s
all-different [] f = tt
all-different (x ∷ s) f = (
  others s (λ j h e. f 0 (suc j) (omega arith) (omega arith) e),
  all-different s (λ i j h k. f (suc i) (suc j) (omega arith) (omega arith)),
)
  where
    others : (t : List ℕ) → ((j : ℕ) → j < length t → x ≡ get_or t j 0 → ⊥) → Without x t
    others [] g = tt
    others (y ∷ t) g = (λ e. g 0 (omega arith) (sym e), others t (λ j h. g (suc j) (omega arith)))

-- ---- where none offends

first-most : (f : ℕ → Bool) (i n : ℕ) → first_from f i n ≤ i + n
unfolding first_from
first-most f i zero = omega arith
first-most f i (suc n) = cond_has (λ (k : ℕ). k ≤ i + suc n) (f i) (omega arith) (omega (arith, first-most f (suc i) n))

holds-nowhere : (f : ℕ → Bool) (i n k : ℕ) → i + n ≤ first_from f i n → i ≤ k → k < i + n → f k ≡ false
unfolding first_from
holds-nowhere f i zero k h l m = absurd (omega arith)
holds-nowhere f i (suc n) k h l m = by (f i) refl h (λ g. holds-nowhere f (suc i) n k g)
  where
    by : (t : Bool) → f i ≡ t → i + suc n ≤ cond t i (first_from f (suc i) n)
        → (suc i + n ≤ first_from f (suc i) n → suc i ≤ k → k < suc i + n → f k ≡ false) → f k ≡ false
    by true e h more = absurd (omega arith)
    by false e h more =
        elim (dec_le k i) [
          | yes le ↦ let z : k ≡ i = omega arith in ap f z ∙ e
          | no gt ↦ more (omega arith) (omega arith) (omega arith)
        ]

or-none : (a b : Bool) → (a || b) ≡ false → (a ≡ false) × (b ≡ false)
or-none true b e = absurd (true≢false e)
or-none false b e = (refl, e)

module _ (s : List ℕ) (none : length s ≤ first_bad s) where
  fine-at : (k : ℕ) → k < length s → (get_or s k 0 < length s) × (k ≤ place_of (get_or s k 0) s)
  unfolding offends
  fine-at k h =
      let e = or-none (leb (length s) (get_or s k 0)) (ltb (place_of (get_or s k 0) s) k)
      (holds-nowhere (offends s) 0 (length s) k (omega arith) (omega arith) (omega arith)) in
      (leb-false (length s) (get_or s k 0) e.0, ltb-false (place_of (get_or s k 0) s) k e.1)

  apart : Apart s
  apart i j h k e = omega (arith, place-least (get_or s j 0) s i (omega arith) e, (fine-at j k).1)

  every : (p : ℕ) → p < length s → place_of p s < length s
  every p h =
      elim (dec_le (length s) (place_of p s)) [
        | yes k ↦ absurd (omega (
          arith,
          few (length s) (p ∷ s) (h, all-below (length s) s (λ i l. (fine-at i l).0))
              (missing p s k, all-different s apart),
        ))
        | no k ↦ omega arith
      ]

  pub places-once : {n : ℕ} → length s ≡ n → Once n s
  places-once {n} e =
      record {
        many = e;
        every = λ p h. omega (arith, every p (omega arith));
        once = λ i j h k. apart i j h (omega arith);
      }
