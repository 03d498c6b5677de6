-- What the code makes, from what its calls ensure.
use mathlib.Core.Path.{◌≡◌, refl, sym, ap, subst⁻¹, ◌∙◌}
use mathlib.Core.Bool.{Bool, true, false, cond}
use mathlib.Core.List.{List, [], ◌++◌, append_assoc, append-nil}
use Prim.Native.Nat.{ℕ}
use native.Mathlib.Omega.{arith}
use Rattle.std.proofs.lemmas.Bool.Decides.{nat_tests}
use lib.Dec.{eqb, ltb}
use lib.ListN.{length, replicate}
use Rattle.std.specs.Prelude.{Result, Ok, Err}
use Rattle.words.specs.Bytes.{bytes}
use Rattle.words.proofs.Tests.{cond_of}
use Rattle.answers.specs.declared.Refusal.{Refusal}
use Rattle.answers.specs.declared.Refusal.TheVariants.{DrawerSpent}
use Rattle.answers.specs.Told.{told, number_of_refusal}
use Rattle.answers.specs.Answers.{number_of, Answer, answered}
use Rattle.answers.proofs.Answers.{refuse-clear, handed-on, goes-on}
use Rattle.drawer.specs.declared.Drawer.{Drawer}
use Rattle.drawer.specs.Drawer.{for_nonce, for_iv, nonce, remaining, rows, moved, Handed}
use Rattle.drawer.specs.Drawer.{drawing, Drawing}

pub length-nonce : (d : Drawer) → length (nonce d) ≡ 12
unfolding nonce bytes
length-nonce d = refl

-- ---- a nonce

-- the one line of the table, judged by how many counts are left
abbrev judged : ℕ → Result (Unit {0}) Refusal
judged left = cond (eqb left 0) (Err DrawerSpent) (Ok tt)

none-left : (n : ℕ) → eqb n 0 ≡ ltb n 1
none-left n = grind (arith, nat_tests)

module _ (d : Drawer) (r : Result (Unit {0}) Refusal) (left : ℕ) (er : r ≡ judged left) (el : left ≡ remaining d) where
  told-judged : told r ≡ number_of (rows 1 d)
  told-judged = ap told er ∙ rw (el, none-left) (cond_of told (ltb (remaining d) 1) (Err DrawerSpent) (Ok tt))

pub refused-is : (d : Drawer) (why : Refusal) (left : ℕ) → Err why ≡ judged left → left ≡ remaining d
    → Drawing for_nonce (number_of_refusal why) d (replicate 12 0) d
unfolding drawing nonce bytes
refused-is d why left er el =
    handed-on {B = Unit {0}} (Err why) (rows 1 d) (told-judged d (Err why) left er el) refl _ _

pub drawn-is : (d : Drawer) (u : Unit {0}) (left : ℕ) → Ok u ≡ judged left → left ≡ remaining d
    → Drawing for_nonce 0 d (nonce d) (moved 1 d)
unfolding drawing
drawn-is d u left er el =
    sym (refuse-clear _ _ (rows 1 d) (goes-on (rows 1 d) (told-judged d (Ok u) left er el) tt))

-- ---- an iv, of what the draw answered

-- a draw's bytes, four times
abbrev pub four_times : List ℕ → List ℕ
four_times s = s ++ s ++ s ++ s

pub four-joined : (n : List ℕ) → n ++ (n ++ (n ++ (n ++ []))) ≡ four_times n
four-joined n = simp (append_assoc, append-nil)

-- it is what the draw answered, refused or not, with its bytes four times
abbrev Ivs : Answer Handed → Answer Handed → Type 0
Ivs a b = answered a.number (record { bytes = four_times a.outcome.bytes; next = a.outcome.next }) ≡ b

ivs : (d : Drawer) → Ivs (drawing for_nonce d) (drawing for_iv d)
unfolding drawing nonce bytes
ivs d = by (ltb (remaining d) 1)
  where
    by : (t : Bool)
        → Ivs (cond t (answered 9 (record { bytes = replicate 12 0; next = d }))
        (answered 0 (record { bytes = nonce d; next = moved 1 d })))
        (cond t (answered 9 (record { bytes = replicate 48 0; next = d }))
        (answered 0 (record { bytes = four_times (nonce d); next = moved 1 d })))
    by true = refl
    by false = refl

pub iv-is : (d next : Drawer) (number : ℕ) (n s : List ℕ) → Drawing for_nonce number d n next → s ≡ four_times n
    → Drawing for_iv number d s next
iv-is d next number n s e f = rw f (subst⁻¹ (λ (a : Answer Handed). Ivs a (drawing for_iv d)) e (ivs d))
