-- The public function's promise allows one result.
use Rattle.std.proofs.Common.{◌≡◌, ℕ, List, [], length, refl, ap}
use Rattle.answers.specs.Answers.{applying, smallest}
use Rattle.std.specs.Prelude.{Result}
use Rattle.answers.specs.declared.Refusal.{Refusal}
use Rattle.answers.specs.Told.{told}
use Rattle.answers.proofs.Answers.{same_answer, least-answered}
use Rattle.answers.proofs.Unique.{answer-told}
use Rattle.chacha.specs.Entry.{rows, Stopped, streaming, next_of, Streaming}

pub stream-unique : (key nonce text : List ℕ) (start : ℕ) {m n i j : ℕ} {a b : List ℕ}
    → Streaming m i key nonce start text a → Streaming n j key nonce start text b
    → (m ≡ n) × (i ≡ j) × (a ≡ b)
stream-unique key nonce text start p q =
    let e = same_answer p q in (e.0, ap (λ (l : Stopped). l.next) e.1, ap (λ (l : Stopped). l.text) e.1)

-- the same of what the function answers
pub stream-answer-unique : (key nonce text : List ℕ) (start : ℕ) (r s : Result ℕ Refusal) {a b : List ℕ}
    → Streaming (told r) (next_of start r) key nonce start text a
    → Streaming (told s) (next_of start s) key nonce start text b → r ≡ s
stream-answer-unique key nonce text start r s p q =
    let e = same_answer p q in answer-told (next_of start) (λ x y f. f) r s e.0 (ap (λ (l : Stopped). l.next) e.1)

-- the number is the smallest that applies
pub streaming-least : (key nonce text : List ℕ) (start : ℕ)
    → (streaming key nonce start text).number
    ≡ smallest (applying (rows (length key) (length nonce) start (length text)))
unfolding streaming
streaming-least key nonce text start =
    least-answered _ _ [] refl (rows (length key) (length nonce) start (length text)) tt
