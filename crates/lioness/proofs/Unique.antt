-- Each public function's promise allows one result.
use mathlib.Core.Path.{◌≡◌, refl}
use mathlib.Core.List.{List, []}
use Prim.Native.Nat.{ℕ}
use lib.ListN.{length}
use Rattle.answers.specs.Answers.{applying, smallest}
use Rattle.answers.proofs.Answers.{same_answer, least-answered}
use Rattle.lioness.specs.Entry.{rows, ordered, Enciphering, Deciphering}

pub encipher-unique : (key iv block : List ℕ) {m n : ℕ} {a b : List ℕ} → Enciphering m key iv block a
    → Enciphering n key iv block b → (m ≡ n) × (a ≡ b)
encipher-unique key iv block = same_answer

pub decipher-unique : (key iv block : List ℕ) {m n : ℕ} {a b : List ℕ} → Deciphering m key iv block a
    → Deciphering n key iv block b → (m ≡ n) × (a ≡ b)
decipher-unique key iv block = same_answer

-- the number is the smallest that applies, in whatever order the steps are
pub ordered-least : (a b c d : ℕ) (key iv block : List ℕ)
    → (ordered a b c d key iv block).number ≡ smallest (applying (rows (length key) (length iv) (length block)))
unfolding ordered
ordered-least a b c d key iv block = least-answered _ _ [] refl (rows (length key) (length iv) (length block)) tt
