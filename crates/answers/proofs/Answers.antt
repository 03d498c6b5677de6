-- Answers: a promise that is an equation allows one result, the first row that applies has the smallest number, and an
-- answer is undone where the outputs are.
use mathlib.Core.Path.{◌≡◌, refl, sym, ap, subst, subst⁻¹, ◌∙◌}
use mathlib.Core.Logic.{◌⊎◌, inl, inr, ⊎_elim}
use mathlib.Core.Bool.{Bool, true, false, cond, not, ◌&&◌}
use mathlib.Core.List.{List, [], ◌∷◌, ◌++◌}
use Prim.Native.Nat.{ℕ, ◌≤◌}
use native.Mathlib.Nat.{le_refl}
use native.Mathlib.Omega.{arith}
use lib.Dec.{T, eqb, leb, leb→le}
use Rattle.words.proofs.Unique.{same}
use Rattle.words.proofs.Tests.{and_left, and_right, cond_of}
use Rattle.answers.specs.declared.Refusal.{Refusal}
use Rattle.answers.specs.declared.Refusal.TheVariants.{KeyLength, NonceLength, DataLength, TextLength, TagLength}
use Rattle.answers.specs.declared.Refusal.TheVariants.{RoomLength, WrongTag, StreamTooLong, DrawerSpent, BookForm}
use Rattle.answers.specs.declared.Refusal.TheVariants.{ClassMissing, CutShort, CountOrLength, BadShuffle}
use Rattle.answers.specs.declared.Refusal.TheVariants.{LeftOver, MoreThanDeclared, OutOfTurn, BatchForm}
use Rattle.answers.specs.Told.{number_of_refusal, told}
use Rattle.std.specs.Prelude.{Result, Ok, Err, IsOk, IsErr}
use Rattle.answers.specs.Answers.{Row, number_of, Answer, answered, refuse, answer, applying, smallest}

abbrev number : {A : Type 0} → Answer A → ℕ
number a = a.number

abbrev outcome : {A : Type 0} → Answer A → A
outcome a = a.outcome

-- the number and the memory of two answers that one promise allows are equal
pub same_answer : {A : Type 0} {m n : ℕ} {a b : A} {z : Answer A} → answered m a ≡ z → answered n b ≡ z
    → (m ≡ n) × (a ≡ b)
same_answer p q = (ap number (same p q), ap outcome (same p q))

-- ---- a list of rows

-- none applies
abbrev pub Clear : List Row → Type 0
Clear [] = Unit {0}
Clear (r ∷ rs) = (r.applies ≡ false) × Clear rs

-- none has the number that means done
abbrev pub numbered : List Row → Bool
numbered [] = true
numbered (r ∷ rs) = not (eqb r.number 0) && numbered rs

-- one applies: whatever memory is kept and whatever would follow, its number is answered
record Given (rows : List Row) : Type 1 where
  is : {A : Type 0} (kept : A) (follows : Answer A) → refuse rows kept follows ≡ answered (number_of rows) kept
  some : T (numbered rows) → number_of rows ≡ 0 → ⊥

-- one or the other holds
clear-or-given : (rows : List Row) → Clear rows ⊎ Given rows
clear-or-given [] = inl tt
clear-or-given (r ∷ rs) = by r.applies refl (clear-or-given rs)
  where
    by : (t : Bool) → r.applies ≡ t → Clear rs ⊎ Given rs → Clear (r ∷ rs) ⊎ Given (r ∷ rs)
    by true e rest =
        inr
        (record {
          is = λ kept follows. rw e;
          some =
              λ n z. subst (λ (x : ℕ). T (not (eqb x 0))) (rw e at z)
              (and_left (not (eqb r.number 0)) (numbered rs) n);
        })
    by false e (inl c) = inl (e, c)
    by false e (inr g) =
        inr
        (record {
          is = λ kept follows. rw e (g.is kept follows);
          some = λ n z. g.some (and_right (not (eqb r.number 0)) (numbered rs) n) (rw e at z);
        })

-- where no row applies the number is 0
pub clear-number : (rows : List Row) → Clear rows → number_of rows ≡ 0
clear-number [] c = refl
clear-number (r ∷ rs) c = rw c.0 (clear-number rs c.1)

module _ {A : Type 0} (kept : A) (follows : Answer A) where
  -- and it goes on
  pub refuse-clear : (rows : List Row) → Clear rows → refuse rows kept follows ≡ follows
  refuse-clear [] c = refl
  refuse-clear (r ∷ rs) c = rw c.0 (refuse-clear rs c.1)

module _ {A : Type 0} (kept : A) (follows : Answer A) (rows : List Row) where
  -- 0 comes where no row applies and what follows is done
  pub refuse-done : T (numbered rows) → (refuse rows kept follows).number ≡ 0 → Clear rows × (follows.number ≡ 0)
  refuse-done n e =
      ⊎_elim (λ (c : Clear rows). (c, sym (ap number (refuse-clear kept follows rows c)) ∙ e))
      (λ (g : Given rows). absurd (g.some n (sym (ap number (g.is kept follows)) ∙ e)))
      (clear-or-given rows)

module _ {A : Type 0} (done kept : A) (rows : List Row) where
  -- 0 comes with the outputs, where no row applies
  pub answer-done : T (numbered rows) → (answer rows done kept).number ≡ 0
      → Clear rows × (answer rows done kept ≡ answered 0 done)
  answer-done n e = let c = (refuse-done kept (answered 0 done) rows n e).0 in
      (c, refuse-clear kept (answered 0 done) rows c)

  -- what the outputs have with 0, and the memory as it was with any other number, an answer has
  pub answer-has : (P : Answer A → Type 0) → T (numbered rows) → (Clear rows → P (answered 0 done))
      → ((n : ℕ) → (n ≡ 0 → ⊥) → P (answered n kept))
      → P (answer rows done kept)
  answer-has P n hd hk =
      ⊎_elim (λ (c : Clear rows). subst⁻¹ P (refuse-clear kept (answered 0 done) rows c) (hd c))
      (λ (g : Given rows). subst⁻¹ P (g.is kept (answered 0 done)) (hk (number_of rows) (g.some n)))
      (clear-or-given rows)

-- ---- the number that code builds of the same rows, for the entry point that goes by it
module _ (rows : List Row) {r : ℕ} (er : r ≡ number_of rows) where
  pub judged-refused : {A : Type 0} (kept : A) (follows : Answer A) → (r ≡ 0 → ⊥)
      → answered r kept ≡ refuse rows kept follows
  judged-refused kept follows h =
      ap (λ (n : ℕ). answered n kept) er
      ∙ sym
      (⊎_elim (λ (c : Clear rows). absurd (h (er ∙ clear-number rows c))) (λ (g : Given rows). g.is kept follows)
      (clear-or-given rows))

  pub judged-clear : T (numbered rows) → r ≡ 0 → Clear rows
  judged-clear n e =
      ⊎_elim (λ (c : Clear rows). c) (λ (g : Given rows). absurd (g.some n (sym er ∙ e))) (clear-or-given rows)

-- ---- the refusal by its name that a judging function hands on

-- none has the number that means done
never-done : (why : Refusal) → T (not (eqb (number_of_refusal why) 0))
never-done KeyLength = tt
never-done NonceLength = tt
never-done DataLength = tt
never-done TextLength = tt
never-done TagLength = tt
never-done RoomLength = tt
never-done WrongTag = tt
never-done StreamTooLong = tt
never-done DrawerSpent = tt
never-done BookForm = tt
never-done ClassMissing = tt
never-done CutShort = tt
never-done CountOrLength = tt
never-done BadShuffle = tt
never-done LeftOver = tt
never-done MoreThanDeclared = tt
never-done OutOfTurn = tt
never-done BatchForm = tt

pub refused-number : (why : Refusal) → number_of_refusal why ≡ 0 → ⊥
refused-number why z = subst (λ (x : ℕ). T (not (eqb x 0))) z (never-done why)

-- so an answer that has it is done
pub done-is : {A : Type 0} (r : Result A Refusal) → told r ≡ 0 → IsOk r
done-is (Ok x) z = refl
done-is (Err why) z = absurd (refused-number why z)

-- what a `?` hands on is answered, whatever memory is kept and whatever would follow
pub handed-on : {A B : Type 0} (r : Result B Refusal) (rows : List Row) → told r ≡ number_of rows → IsErr r
    → (kept : A) (follows : Answer A)
    → answered (told r) kept ≡ refuse rows kept follows
handed-on (Ok x) rows e i kept follows = absurd (subst (λ (b : Bool). T (not b)) i tt)
handed-on (Err why) rows e i kept follows = judged-refused rows e kept follows (refused-number why)

-- where it hands nothing on, no row applies
pub goes-on : (rows : List Row) → 0 ≡ number_of rows → T (numbered rows) → Clear rows
goes-on rows e n = judged-clear rows e n refl

-- ---- "Where several apply, the smallest number is given."

-- the definitions computed: the smallest is not the first, and what does not apply is no candidate
smallest-computes : ◌≡◌ {A = ℕ} (smallest (applying (record { applies = true; number = 6 }
    ∷ record { applies = false; number = 2 } ∷ record { applies = true; number = 4 } ∷ []))) 4
smallest-computes = refl

-- the numbers of the rows rise, from n on
abbrev pub rising : ℕ → List Row → Bool
rising n [] = true
rising n (r ∷ rs) = leb n r.number && rising r.number rs

abbrev AtLeast : ℕ → List ℕ → Type 0
AtLeast n [] = Unit {0}
AtLeast n (m ∷ s) = (n ≤ m) × AtLeast n s

smallest-least : (n m : ℕ) (s : List ℕ) → n ≤ m → AtLeast n s → n ≤ smallest (m ∷ s)
smallest-least n m [] h a = h
smallest-least n m (k ∷ s) h a = omega (arith, smallest-least n k s a.0 a.1)

smallest-first : (n : ℕ) (s : List ℕ) → AtLeast n s → n ≡ smallest (n ∷ s)
smallest-first n [] a = refl
smallest-first n (m ∷ s) a = omega (arith, smallest-least n m s a.0 a.1)

rising-least : (k n : ℕ) (rows : List Row) → k ≤ n → T (rising n rows) → AtLeast k (applying rows)
rising-least k n [] h t = tt
rising-least k n (r ∷ rs) h t =
    let here : k ≤ r.number = omega (
      arith,
      leb→le n r.number
          (and_left (leb n r.number) (rising r.number rs) t),
    ) in
    by r.applies here (rising-least k r.number rs here (and_right (leb n r.number) (rising r.number rs) t))
  where
    by : (b : Bool) → k ≤ r.number → AtLeast k (applying rs)
        → AtLeast k (cond b (r.number ∷ applying rs) (applying rs))
    by true here rest = (here, rest)
    by false here rest = rest

-- the first row that applies has the smallest number of all that do
pub least : (n : ℕ) (rows : List Row) → T (rising n rows) → number_of rows ≡ smallest (applying rows)
least n [] t = refl
least n (r ∷ rs) t =
    let more = and_right (leb n r.number) (rising r.number rs) t in
    by r.applies (rising-least r.number r.number rs (le_refl r.number) more) (least r.number rs more)
  where
    by : (b : Bool) → AtLeast r.number (applying rs) → number_of rs ≡ smallest (applying rs)
        → cond b r.number (number_of rs) ≡ smallest (cond b (r.number ∷ applying rs) (applying rs))
    by true a e = smallest-first r.number (applying rs) a
    by false a e = e

module _ {A : Type 0} (kept : A) (follows : Answer A) (more : List Row) (e : follows.number ≡ number_of more) where
  -- the number of an answer by rows, where what follows goes by more of them
  pub answered-number : (rows : List Row) → (refuse rows kept follows).number ≡ number_of (rows ++ more)
  answered-number [] = e
  answered-number (r ∷ rs) =
      cond_of number r.applies (answered r.number kept) (refuse rs kept follows)
      ∙ ap (cond r.applies r.number) (answered-number rs)

  pub least-answered : (rows : List Row) → T (rising 1 (rows ++ more))
      → (refuse rows kept follows).number ≡ smallest (applying (rows ++ more))
  least-answered rows t = answered-number rows ∙ least 1 (rows ++ more) t

-- ---- an entry point that works in place on memory x, and one that undoes it
module _ {A : Type 0} (rows : A → List Row) (there back : A → A) (x : A) where
  -- after the answer a, the second call answers the same number and leaves x
  abbrev Back : Answer A → Type 0
  Back a = answer (rows a.outcome) (back a.outcome) a.outcome ≡ answered a.number x

  -- so it is, whether x was refused or not, where the outputs are judged as x was and are undone
  pub undone : (Clear (rows x) → rows (there x) ≡ rows x) → (Clear (rows x) → back (there x) ≡ x)
      → Back (answer (rows x) (there x) x)
  undone judged h =
      ⊎_elim
      (λ (c : Clear (rows x)). subst⁻¹ Back (refuse-clear x (answered 0 (there x)) (rows x) c)
      (ap (λ (r : List Row). answer r (back (there x)) (there x)) (judged c)
      ∙ refuse-clear (there x) (answered 0 (back (there x))) (rows x) c ∙ ap (answered 0) (h c)))
      (λ (g : Given (rows x)). subst⁻¹ Back (g.is x (answered 0 (there x))) (g.is x (answered 0 (back x))))
      (clear-or-given (rows x))
