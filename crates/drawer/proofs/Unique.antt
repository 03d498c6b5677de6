-- Each public function's promise allows one result.
use mathlib.Core.Path.{◌≡◌, refl, ap}
use mathlib.Core.List.{List, []}
use Prim.Native.Nat.{ℕ}
use Rattle.std.specs.Prelude.{Result, Ok}
use Rattle.answers.specs.declared.Refusal.{Refusal}
use Rattle.answers.specs.Told.{told}
use Rattle.answers.specs.Answers.{applying, smallest}
use Rattle.answers.proofs.Answers.{same_answer, least-answered}
use Rattle.answers.proofs.Unique.{answer-told}
use Rattle.words.proofs.Unique.{same}
use Rattle.drawer.specs.declared.Drawer.{Drawer}
use Rattle.drawer.specs.Drawer.{Use, for_nonce, for_iv, started, nonce, remaining, counts, rows, Handed}
use Rattle.drawer.specs.Drawer.{drawing, Drawing}
use Rattle.drawer.specs.declared.Drawn.{Drawn}
use Rattle.drawer.specs.Drawn.{bytes_of, next_of}

pub start-unique : (reader count : ℕ) {a b : Drawer} → a ≡ started reader count → b ≡ started reader count → a ≡ b
start-unique reader count = same

pub remaining-unique : (d : Drawer) {a b : ℕ} → a ≡ remaining d → b ≡ remaining d → a ≡ b
remaining-unique d = same

pub next-nonce-unique : (d : Drawer) {a b : List ℕ} → a ≡ nonce d → b ≡ nonce d → a ≡ b
next-nonce-unique d = same

pub draw-unique : (d : Drawer) {m n : ℕ} {a b : List ℕ} {e f : Drawer} → Drawing for_nonce m d a e
    → Drawing for_nonce n d b f
    → (m ≡ n) × (◌≡◌ {A = Handed} (record { bytes = a; next = e }) (record { bytes = b; next = f }))
draw-unique d = same_answer

pub iv-unique : (d : Drawer) {m n : ℕ} {a b : List ℕ} {e f : Drawer} → Drawing for_iv m d a e → Drawing for_iv n d b f
    → (m ≡ n) × (◌≡◌ {A = Handed} (record { bytes = a; next = e }) (record { bytes = b; next = f }))
iv-unique d = same_answer

-- the same of what the functions answer
pub draws-unique : (u : Use) (n : ℕ) (d : Drawer) (r s : Result (Drawn n) Refusal)
    → Drawing u (told r) d (bytes_of n r) (next_of n d r) → Drawing u (told s) d (bytes_of n s) (next_of n d s)
    → r ≡ s
draws-unique u n d r s p q = let e = same_answer p q in answer-told (handed n d) (kept n d) r s e.0 e.1
  where
    handed : (n : ℕ) → Drawer → Result (Drawn n) Refusal → Handed
    handed n d r = record { bytes = bytes_of n r; next = next_of n d r }

    kept : (n : ℕ) (d : Drawer) (x y : Drawn n) → handed n d (Ok x) ≡ handed n d (Ok y) → x ≡ y
    kept n d x y f = ap (λ (h : Handed). record { bytes = h.bytes; next = h.next }) f

-- the number is the smallest that applies
pub drawing-least : (u : Use) (d : Drawer) → (drawing u d).number ≡ smallest (applying (rows (counts u) d))
unfolding drawing
drawing-least u d = least-answered _ _ [] refl (rows (counts u) d) tt
