-- Each public function's promise allows one result.
use mathlib.Core.Path.{◌≡◌}
use mathlib.Core.List.{List}
use Prim.Native.Nat.{ℕ}
use Rattle.answers.proofs.Answers.{same_answer}
use Rattle.hyena.specs.Entry.{Inputs}
use Rattle.sealed_card.specs.SealedCard.{Sealing, Opening}

pub seal-unique : (i : Inputs) (room : List ℕ) {m n : ℕ} {a b : List ℕ} → Sealing m i room a → Sealing n i room b
    → (m ≡ n) × (a ≡ b)
seal-unique i room = same_answer

pub open-unique : (key «data» card room : List ℕ) {m n : ℕ} {a b : List ℕ} → Opening m key «data» card room a
    → Opening n key «data» card room b → (m ≡ n) × (a ≡ b)
open-unique key «data» card room = same_answer
