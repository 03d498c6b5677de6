-- The public function's promise allows one result.
use Rattle.std.proofs.Common.{◌≡◌, ℕ, List, [], length, refl}
use Rattle.answers.specs.Answers.{applying, smallest}
use Rattle.answers.proofs.Answers.{same_answer, least-answered}
use Rattle.blake.specs.Entry.{rows, digesting, Digesting}

pub digest-unique : (key text room : List ℕ) {m n : ℕ} {a b : List ℕ} → Digesting m key text room a
    → Digesting n key text room b → (m ≡ n) × (a ≡ b)
digest-unique key text room = same_answer

-- the number is the smallest that applies
pub digesting-least : (key text room : List ℕ) → (digesting key text room).number
    ≡ smallest (applying (rows (length key) (length text) (length room)))
unfolding digesting
digesting-least key text room = least-answered _ _ [] refl (rows (length key) (length text) (length room)) tt
