-- The public function's promise allows one result.
use mathlib.Core.Path.{◌≡◌, refl, ap}
use mathlib.Core.List.{List, []}
use Prim.Native.Nat.{ℕ}
use Rattle.std.specs.Prelude.{Result}
use Rattle.answers.specs.declared.Refusal.{Refusal}
use Rattle.answers.specs.Told.{told}
use Rattle.answers.specs.Answers.{applying, smallest}
use Rattle.answers.proofs.Answers.{same_answer, least-answered}
use Rattle.answers.proofs.Unique.{answer-told}
use Rattle.drawer.specs.declared.Drawer.{Drawer}
use Rattle.batch.specs.Batch.{Inputs, Sealed, refusals, batching, Batching}
use Rattle.batch.specs.Next.{next_of}

pub seal-unique : (b : Inputs) (room tags : List ℕ) {m n : ℕ} {r t r' t' : List ℕ} {d d' : Drawer}
    → Batching m b room tags r t d → Batching n b room tags r' t' d'
    → (m ≡ n)
    × (◌≡◌ {A = Sealed} (record { room = r; tags = t; next = d }) (record { room = r'; tags = t'; next = d' }))
seal-unique b room tags = same_answer

-- the same of what the function answers
pub seal-answer-unique : (b : Inputs) (d : Drawer) (room tags : List ℕ) (r s : Result Drawer Refusal)
    {x t x' t' : List ℕ} → Batching (told r) b room tags x t (next_of d r)
    → Batching (told s) b room tags x' t' (next_of d s) → r ≡ s
seal-answer-unique b d room tags r s p q =
    let e = same_answer p q in answer-told (next_of d) (λ x y f. f) r s e.0 (ap (λ (l : Sealed). l.next) e.1)

-- the number is the smallest that applies
pub batching-least : (b : Inputs) (room tags : List ℕ)
    → (batching b room tags).number ≡ smallest (applying (refusals b room tags))
unfolding batching
batching-least b room tags = least-answered _ _ [] refl (refusals b room tags) tt
