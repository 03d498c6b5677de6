-- Tests: one of two numbers by a test, and a fact about every number below a bound from one test that antt computes.
use mathlib.Core.Path.{◌≡◌, refl, sym, subst⁻¹, ◌∙◌}
use mathlib.Core.Logic.{⊎_elim}
use mathlib.Core.Bool.{Bool, true, false, cond, ◌&&◌}
use Prim.Native.Nat.{ℕ, zero, suc, ◌<◌}
use native.Mathlib.Nat.{not-suc-le-zero, le_of_suc-le-suc, eq-or-lt_of_le}
use native.Mathlib.Decide.{ℕ_discrete}
use borrow.Author.Tests.{eq-eqb, ne_eqb}
use lib.Dec.{T, eqb}

-- what both have, either has
pub cond_has : {A : Type 0} (P : A → Type 0) (t : Bool) {a b : A} → P a → P b → P (cond t a b)
cond_has P true ha hb = ha
cond_has P false ha hb = hb

-- as a bound
pub cond-lt : (t : Bool) {a b n : ℕ} → a < n → b < n → cond t a b < n
cond-lt t {n = n} ha hb = cond_has (λ (x : ℕ). x < n) t ha hb

pub and_left : (a b : Bool) → T (a && b) → T a
and_left true b t = tt
and_left false b t = t

pub and_right : (a b : Bool) → T (a && b) → T b
and_right true b t = t
and_right false b t = absurd t

abbrev pub all_below : (ℕ → Bool) → ℕ → Bool
all_below f zero = true
all_below f (suc n) = f n && all_below f n

pub below : (f : ℕ → Bool) (n : ℕ) → T (all_below f n) → (k : ℕ) → k < n → T (f k)
below f zero t k l = absurd (not-suc-le-zero l)
below f (suc n) t k l =
    ⊎_elim (λ e. subst⁻¹ (λ (x : ℕ). T (f x)) e (and_left (f n) (all_below f n) t))
    (λ m. below f n (and_right (f n) (all_below f n) t) k m)
    (eq-or-lt_of_le (le_of_suc-le-suc l))

-- two tests agree where what they ask for is the same
pub agree : (a b c d : ℕ) → (a ≡ b → c ≡ d) → (c ≡ d → a ≡ b) → eqb a b ≡ eqb c d
agree a b c d there back =
    elim (ℕ_discrete a b) [
      | yes e ↦ eq-eqb a b e ∙ sym (eq-eqb c d (there e))
      | no n ↦ ne_eqb a b n ∙ sym (ne_eqb c d (λ e. n (back e)))
    ]

-- a function of one of two
pub cond_of : {A B : Type 0} (f : A → B) (t : Bool) (a b : A) → f (cond t a b) ≡ cond t (f a) (f b)
cond_of f true a b = refl
cond_of f false a b = refl
