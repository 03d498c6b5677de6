-- Loops that do a step again and again.
use mathlib.Core.Path.{◌≡◌, refl, ap, ◌∙◌}
use Prim.Native.Nat.{ℕ, zero, suc, ◌+◌, ◌<◌}
use native.Mathlib.Nat.{le_refl, le_step}
use native.Mathlib.Numerals.{add-one}
use Rattle.words.specs.Iterate.{iterate}

module _ {A : Type 0} (f : ℕ → A → A) where
  pub iterate-none : (x : A) → iterate f 0 x ≡ x
  unfolding iterate
  iterate-none x = refl

  pub iterate-next : (n : ℕ) (x : A) {t u : A} → t ≡ iterate f n x → u ≡ f n t → u ≡ iterate f (n + 1) x
  unfolding iterate
  iterate-next n x e g = rw (add-one, g, e)

-- steps that do the same
pub iterate-same : {A : Type 0} (f g : ℕ → A → A) (n : ℕ) (x : A) → ((i : ℕ) (y : A) → i < n → f i y ≡ g i y)
    → iterate f n x ≡ iterate g n x
unfolding iterate
iterate-same f g zero x h = refl
iterate-same f g (suc n) x h =
    ap (f n) (iterate-same f g n x (λ i y l. h i y (le_step l))) ∙ h n (iterate g n x) (le_refl (suc n))

-- what each step keeps, all keep
pub iterate-keep : {A : Type 0} (P : A → Type 0) (f : ℕ → A → A) → ((i : ℕ) (y : A) → P y → P (f i y)) → (n : ℕ) (x : A)
    → P x → P (iterate f n x)
unfolding iterate
iterate-keep P f keep zero x h = h
iterate-keep P f keep (suc n) x h = keep n (iterate f n x) (iterate-keep P f keep n x h)
