-- The loops that compare two lists, and that look for a number in one.
use mathlib.Core.Path.{◌≡◌, refl, sym, ap, ap₂, ◌∙◌}
use mathlib.Core.Bool.{Bool, true, false, cond, ◌&&◌, true≢false, and-eq-true_iff, and-true, and-false, and_assoc}
use mathlib.Core.List.{List, [], ◌∷◌}
use Prim.Native.Nat.{ℕ, zero, suc, ◌+◌, ◌≤◌, ◌<◌, min}
use native.Mathlib.Decide.{ℕ_discrete}
use native.Mathlib.Omega.{arith}
use lib.Bits.{bit_or, bit_xor, xor_self, or_zero_r}
use lib.Dec.{eqb}
use lib.ListN.{length, take, drop, get_or, length-drop}
use borrow.Author.Tests.{eqb-true, eq-eqb, ne_eqb, ltb-false}
use Rattle.std.specs.Prelude.{◌==◌, Some, None}
use Rattle.std.specs.List.{position, position_or_len}
use Rattle.std.proofs.lemmas.List.Recursion.{is_position_or_len}
use Rattle.words.specs.Search.{same, place_of, finding}
use Rattle.words.proofs.ExclusiveOr.{xor-zero, or-zero}
use Rattle.words.proofs.Tests.{cond_has}

-- ---- whether two lists are the same

pub same_refl : (s : List ℕ) → same s s ≡ true
unfolding same
same_refl [] = refl
same_refl (b ∷ s) = rw (eq-eqb b b refl, same_refl s)

pub same-is : (s t : List ℕ) → same s t ≡ true → s ≡ t
unfolding same
same-is [] [] e = refl
same-is [] (c ∷ t) e = absurd (true≢false (sym e))
same-is (b ∷ s) [] e = absurd (true≢false (sym e))
same-is (b ∷ s) (c ∷ t) e = let p = (and-eq-true_iff (eqb b c) (same s t)).0 e in
    ap₂ ◌∷◌ (eqb-true b c p.0) (same-is s t p.1)

pub other_length : (s t : List ℕ) → (length s ≡ length t → ⊥) → same s t ≡ false
unfolding same
other_length [] [] h = absurd (h refl)
other_length [] (c ∷ t) h = refl
other_length (b ∷ s) [] h = refl
other_length (b ∷ s) (c ∷ t) h =
    ap (λ (u : Bool). eqb b c && u) (other_length s t (λ z. h (ap suc z))) ∙ and-false (eqb b c)

-- what has differed so far is joined with what differs next
joined : (d a b : ℕ) → eqb (bit_or d (bit_xor a b)) 0 ≡ eqb d 0 && eqb a b
joined d a b =
    elim (ℕ_discrete a b) [
      | yes e ↦ ap (λ (x : ℕ). eqb (bit_or d x) 0) (ap (λ (x : ℕ). bit_xor x b) e ∙ xor_self b)
          ∙ ap (λ (x : ℕ). eqb x 0) (or_zero_r d)
          ∙ sym (ap (λ (u : Bool). eqb d 0 && u) (eq-eqb a b e) ∙ and-true (eqb d 0))
      | no n ↦ ne_eqb (bit_or d (bit_xor a b)) 0 (λ z. n (xor-zero a b (or-zero d (bit_xor a b) z).1))
          ∙ sym (ap (λ (u : Bool). eqb d 0 && u) (ne_eqb a b n) ∙ and-false (eqb d 0))
    ]

-- one step of a loop that gathers what differs: s and t are what follows
pub same_next : (d b c : ℕ) (s t : List ℕ) {u : Bool} → (eqb d 0 && same (b ∷ s) (c ∷ t)) ≡ u
    → (eqb (bit_or d (bit_xor b c)) 0 && same s t) ≡ u
unfolding same
same_next d b c s t e =
    ap (λ (v : Bool). v && same s t) (joined d b c) ∙ and_assoc (eqb d 0) (eqb b c) (same s t) ∙ e

-- and its end, where nothing follows
pub same_end : (d : ℕ) (s t : List ℕ) {u : Bool} → s ≡ [] → t ≡ [] → (eqb d 0 && same s t) ≡ u → eqb d 0 ≡ u
unfolding same
same_end d [] [] l z e = sym (and-true (eqb d 0)) ∙ e
same_end d [] (c ∷ t) l z e = absurd (cc)
same_end d (b ∷ s) t l z e = absurd (cc)

-- ---- where a number first stands

-- the same as the library has it
place_of-or_len : (c : ℕ) (s : List ℕ) → place_of c s ≡ position_or_len (λ a. a == c) s
unfolding place_of
place_of-or_len c s = is_position_or_len (place_of c) (λ a. a == c) refl (λ a s. ap (cond (eqb a c) 0) (omega arith)) s

pub place_of-le : (c : ℕ) (s : List ℕ) → place_of c s ≤ length s
unfolding place_of
place_of-le c [] = omega arith
place_of-le c (a ∷ s) =
    let h : place_of c s ≤ length s = place_of-le c s in
    cond_has (λ (n : ℕ). n ≤ suc (length s)) (eqb a c) (omega arith) (omega arith)

some_of : (t : Bool) (n i : ℕ) → cond t (Some n) None ≡ Some i → n ≡ i
some_of true n i e = cc
some_of false n i e = cc

none_of : (t : Bool) (n : ℕ) → cond t (Some n) None ≡ None → t ≡ false
none_of true n e = cc
none_of false n e = refl

pub place_of-some : (c : ℕ) (s : List ℕ) (i : ℕ) → position (λ a. a == c) s ≡ Some i → place_of c s ≡ i
place_of-some c s i e = place_of-or_len c s ∙ some_of _ _ i e

pub place_of-none : (c : ℕ) (s : List ℕ) → position (λ a. a == c) s ≡ None → place_of c s ≡ length s
place_of-none c s e =
    let k = ltb-false _ _ (none_of _ _ e) in
    omega (arith, k, place_of-or_len c s, place_of-le c s)

pub ended : (s : List ℕ) (c i to : ℕ) → min to (length s) ≤ i → i ≡ finding s i to c
ended s c i to h = omega (arith, place_of-le c (drop i s), length-drop i s)

-- what is searched ends before `to`, and holds the place if it stands before that
pub place_of-part : (c n : ℕ) (s : List ℕ) → place_of c (take n s) ≡ min n (place_of c s)
unfolding place_of
place_of-part c zero s = omega arith
place_of-part c (suc n) [] = omega arith
place_of-part c (suc n) (a ∷ s) =
    let here : Bool → ℕ → ℕ = λ t p. cond t 0 (suc p) in
    elim (eqb a c) as (λ t. here t (place_of c (take n s)) ≡ min (suc n) (here t (place_of c s))) [
      | true ↦ omega arith
      | false ↦ omega (arith, place_of-part c n s)
    ]

-- it stands at no later place than where it is seen
pub place-least : (c : ℕ) (s : List ℕ) (j : ℕ) → j < length s → get_or s j 0 ≡ c → place_of c s ≤ j
unfolding place_of
place-least c [] j l e = absurd (omega arith)
place-least c (a ∷ s) zero l e = rw (eq-eqb a c e) (omega arith)
place-least c (a ∷ s) (suc j) l e =
    let h : place_of c s ≤ j = place-least c s j (omega arith) e in
    cond_has (λ (n : ℕ). n ≤ suc j) (eqb a c) (omega arith) (omega arith)

-- and at a later one than where others are seen
pub place-more : (c : ℕ) (s : List ℕ) (j : ℕ) → j < length s → (get_or s j 0 ≡ c → ⊥) → j ≤ place_of c s
    → j + 1 ≤ place_of c s
unfolding place_of
place-more c [] j l n h = absurd (omega arith)
place-more c (a ∷ s) zero l n h = rw (ne_eqb a c n) (omega arith)
place-more c (a ∷ s) (suc j) l n h = by (eqb a c) h (place-more c s j (omega arith) n)
  where
    by : (t : Bool) → suc j ≤ cond t 0 (suc (place_of c s)) → (j ≤ place_of c s → j + 1 ≤ place_of c s)
        → suc j + 1 ≤ cond t 0 (suc (place_of c s))
    by true h more = absurd (omega arith)
    by false h more = let k : j + 1 ≤ place_of c s = more (omega arith) in omega arith
