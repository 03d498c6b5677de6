-- Each public function's promise allows one result.
use mathlib.Core.Path.{◌≡◌, ap}
use mathlib.Core.List.{List}
use Prim.Native.Nat.{ℕ}
use Rattle.std.specs.Prelude.{Result}
use Rattle.answers.specs.declared.Refusal.{Refusal}
use Rattle.answers.proofs.Answers.{same_answer}
use Rattle.words.proofs.Unique.{same}
use Rattle.hexadecimal.specs.declared.Hex.{Hex}
use Rattle.hexadecimal.specs.Hex.{Reading, start, TakingIn, Spelling, Showing}

pub begin-unique : {a b : Hex} → a ≡ start → b ≡ start → a ≡ b
begin-unique = same

pub take-in-unique : (h : Hex) (text room : List ℕ) {g k : Hex} {a b : List ℕ} → TakingIn g h text room a
    → TakingIn k h text room b → (g ≡ k) × (a ≡ b)
take-in-unique h text room p q = let e = same p q in (ap (λ (r : Reading). r.hex) e, ap (λ (r : Reading). r.room) e)

pub spell-unique : (s room : List ℕ) {m n : ℕ} {a b : List ℕ} → Spelling m s room a → Spelling n s room b
    → (m ≡ n) × (a ≡ b)
spell-unique s room = same_answer

pub show-unique : (s room : List ℕ) {m n : Result ℕ Refusal} {a b : List ℕ} → Showing m s room a → Showing n s room b
    → (m ≡ n) × (a ≡ b)
show-unique s room p q =
    let e = same p q in
    (ap (λ (r : Result ℕ Refusal × List ℕ). r.0) e, ap (λ (r : Result ℕ Refusal × List ℕ). r.1) e)
