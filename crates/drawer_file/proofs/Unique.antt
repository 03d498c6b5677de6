-- Each public function's promise allows one result.
use mathlib.Core.Path.{◌≡◌, refl, ap, subst}
use mathlib.Core.List.{List}
use Prim.Native.Nat.{ℕ}
use lib.Dec.{T, eqb}
use Rattle.std.specs.Prelude.{Result, Ok, Err}
use Rattle.words.proofs.Unique.{same}
use Rattle.answers.proofs.Answers.{same_answer}
use Rattle.drawer.specs.declared.Drawer.{Drawer}
use Rattle.drawer_file.specs.DrawerFile.{storing, Loading}
use Rattle.drawer_file.specs.declared.Damaged.{Damaged}
use Rattle.drawer_file.specs.Loaded.{told, drawer_of}

pub store-unique : (d : Drawer) {a b : List ℕ} → a ≡ storing d → b ≡ storing d → a ≡ b
store-unique d = same

pub load-unique : (s : List ℕ) {m n : ℕ} {a b : Drawer} → Loading m s a → Loading n s b → (m ≡ n) × (a ≡ b)
load-unique s = same_answer

-- the same of what the function answers
pub load-answer-unique : (s : List ℕ) (r q : Result Drawer Damaged) → Loading (told r) s (drawer_of r)
    → Loading (told q) s (drawer_of q) → r ≡ q
load-answer-unique s r q x y = let e = same_answer x y in by r q e.0 e.1
  where
    by : (r q : Result Drawer Damaged) → told r ≡ told q → drawer_of r ≡ drawer_of q → r ≡ q
    by (Ok d) (Ok e) n f = ap Ok f
    by (Ok d) (Err e) n f = absurd (subst (λ (x : ℕ). T (eqb x 0)) n tt)
    by (Err d) (Ok e) n f = absurd (subst (λ (x : ℕ). T (eqb x 106)) n tt)
    by (Err d) (Err e) n f = refl

pub number-unique : {m n : ℕ} → m ≡ 106 → n ≡ 106 → m ≡ n
number-unique = same
