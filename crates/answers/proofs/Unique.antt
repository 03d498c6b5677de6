-- Each public function's promise allows one result.
use mathlib.Core.Path.{◌≡◌, refl, sym, ap, ◌∙◌}
use mathlib.Core.Bool.{Bool, cond}
use Prim.Native.Nat.{ℕ}
use lib.Dec.{eqb}
use Rattle.std.specs.Prelude.{Result, Ok, Err, ⊤}
use Rattle.words.proofs.Unique.{same}
use Rattle.answers.specs.declared.Refusal.{Refusal}
use Rattle.answers.specs.declared.Refusal.TheVariants.{KeyLength, NonceLength, DataLength, TextLength, TagLength}
use Rattle.answers.specs.declared.Refusal.TheVariants.{RoomLength, WrongTag, StreamTooLong, DrawerSpent, BookForm}
use Rattle.answers.specs.declared.Refusal.TheVariants.{ClassMissing, CutShort, CountOrLength, BadShuffle}
use Rattle.answers.specs.declared.Refusal.TheVariants.{LeftOver, MoreThanDeclared, OutOfTurn, BatchForm}
use Rattle.answers.specs.Told.{number_of_refusal, told}
use Rattle.answers.proofs.Answers.{refused-number}

pub number-unique : (why : Refusal) {m n : ℕ} → m ≡ number_of_refusal why → n ≡ number_of_refusal why → m ≡ n
number-unique why = same

-- a row of a table by its number
pub row-unique : (applies : Bool) (number follows : ℕ) {m n : ℕ} → m ≡ cond applies number follows
    → n ≡ cond applies number follows → m ≡ n
row-unique applies number follows = same

pub refuse-unique : (applies : Bool) (why : Refusal) {r s : Result ⊤ Refusal} → r ≡ cond applies (Err why) (Ok tt)
    → s ≡ cond applies (Err why) (Ok tt) → r ≡ s
refuse-unique applies why = same

pub told-unique : {A : Type 0} (answer : Result A Refusal) {m n : ℕ} → m ≡ told answer → n ≡ told answer → m ≡ n
told-unique answer = same

-- ---- the number of a refusal tells which it is

numbered : ℕ → Refusal
numbered n =
    (cond (eqb n 1) KeyLength (cond (eqb n 2) NonceLength (cond (eqb n 3) DataLength
    (cond (eqb n 4) TextLength (cond (eqb n 5) TagLength (cond (eqb n 6) RoomLength
    (cond (eqb n 7) WrongTag (cond (eqb n 8) StreamTooLong (cond (eqb n 9) DrawerSpent
    (cond (eqb n 10) BookForm (cond (eqb n 11) ClassMissing (cond (eqb n 12) CutShort
    (cond (eqb n 13) CountOrLength (cond (eqb n 14) BadShuffle (cond (eqb n 15) LeftOver
    (cond (eqb n 16) MoreThanDeclared (cond (eqb n 17) OutOfTurn BatchForm)))))))))))))))))

back : (why : Refusal) → numbered (number_of_refusal why) ≡ why
unfolding numbered
back KeyLength = refl
back NonceLength = refl
back DataLength = refl
back TextLength = refl
back TagLength = refl
back RoomLength = refl
back WrongTag = refl
back StreamTooLong = refl
back DrawerSpent = refl
back BookForm = refl
back ClassMissing = refl
back CutShort = refl
back CountOrLength = refl
back BadShuffle = refl
back LeftOver = refl
back MoreThanDeclared = refl
back OutOfTurn = refl
back BatchForm = refl

pub same-refusal : (m n : Refusal) → number_of_refusal m ≡ number_of_refusal n → m ≡ n
same-refusal m n e = sym (back m) ∙ ap numbered e ∙ back n

-- an answer is told by its number and by what goes beside that, if this tells what was done
pub answer-told : {A B : Type 0} (beside : Result A Refusal → B) → ((x y : A) → beside (Ok x) ≡ beside (Ok y) → x ≡ y)
    → (r s : Result A Refusal) → told r ≡ told s → beside r ≡ beside s → r ≡ s
answer-told beside tells (Ok x) (Ok y) e f = ap Ok (tells x y f)
answer-told beside tells (Ok x) (Err n) e f = absurd (refused-number n (sym e))
answer-told beside tells (Err m) (Ok y) e f = absurd (refused-number m e)
answer-told beside tells (Err m) (Err n) e f = ap Err (same-refusal m n e)

-- what was done, or its refusal, is told by the number alone
pub same-told : (r s : Result ⊤ Refusal) → told r ≡ told s → r ≡ s
same-told r s e = answer-told told (λ x y f. refl) r s e e
