-- Each public function's promise allows one result, over any cipher, and its number is the smallest that applies. The
-- short forms are the same with their own inputs.
use mathlib.Core.Path.{◌≡◌, refl}
use mathlib.Core.List.{List, [], ◌++◌}
use Prim.Native.Nat.{ℕ}
use Rattle.answers.specs.Answers.{applying, smallest}
use Rattle.answers.proofs.Answers.{same_answer, answered-number, least-answered}
use Rattle.hyena.specs.Entry.{Inputs, refusals, Sealed, wrong_tag, sealing, Sealing, opening, Opening}

module _ (cipher : List ℕ → ℕ → ℕ) where
  pub seal-unique : (i : Inputs) (room tag : List ℕ) {m n : ℕ} {a b s t : List ℕ} → Sealing cipher m i room tag a s
      → Sealing cipher n i room tag b t
      → (m ≡ n) × (◌≡◌ {A = Sealed} (record { room = a; tag = s }) (record { room = b; tag = t }))
  seal-unique i room tag = same_answer

  pub open-unique : (i : Inputs) (tag room : List ℕ) {m n : ℕ} {a b : List ℕ} → Opening cipher m i tag room a
      → Opening cipher n i tag room b → (m ≡ n) × (a ≡ b)
  open-unique i tag room = same_answer

  pub sealing-least : (i : Inputs) (room tag : List ℕ)
      → (sealing cipher i room tag).number ≡ smallest (applying (refusals i tag room))
  unfolding sealing
  sealing-least i room tag = least-answered _ _ [] refl (refusals i tag room) tt

  pub opening-least : (i : Inputs) (tag room : List ℕ)
      → (opening cipher i tag room).number ≡ smallest (applying (refusals i tag room ++ wrong_tag cipher i tag))
  unfolding opening
  opening-least i tag room =
      least-answered room _ (wrong_tag cipher i tag) (answered-number _ _ [] refl (wrong_tag cipher i tag))
      (refusals i tag room) tt
