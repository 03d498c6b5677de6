-- What is found, from what the calls ensure.
use mathlib.Core.Path.{◌≡◌, refl, sym, ap, ◌∙◌}
use mathlib.Core.Bool.{Bool, true, false, cond, not, ◌||◌}
use mathlib.Core.List.{List}
use Prim.Native.Nat.{ℕ}
use Rattle.std.specs.Prelude.{Option, Some, None, Ok, Err}
use Rattle.std.specs.Option.{ok_or}
use Rattle.answers.specs.declared.Refusal.{Refusal}
use Rattle.answers.specs.declared.Refusal.TheVariants.{ClassMissing}
use Rattle.answers.specs.Told.{number_of_refusal}
use Rattle.answers.specs.Answers.{number_of, Answer, answered, answer}
use Rattle.answers.proofs.Answers.{refuse-clear, handed-on, goes-on}
use Rattle.books.specs.Books.{key_place, entry, holds}
use Rattle.books.specs.Entry.{badly_formed, no_entry, Place, nowhere, placed, finding, Finding}

-- a book is badly formed
pub bad : (thisTerm lastTerm : List ℕ) (c : ℕ) (why : Refusal)
    → number_of_refusal why ≡ number_of (badly_formed thisTerm lastTerm)
    → Finding (number_of_refusal why) thisTerm lastTerm c 0 0
unfolding finding
bad thisTerm lastTerm c why e =
    handed-on {B = Unit {0}} (Err why) (badly_formed thisTerm lastTerm) e refl nowhere
    (answer (no_entry thisTerm lastTerm c) (placed thisTerm lastTerm c) nowhere)

-- a search is the answer where it found a key, and the next one is where it did not
module _ (c : ℕ) (book : List ℕ) where
  abbrev key_in : Option ℕ
  key_in = cond (holds c book) (Some (key_place (entry c book))) None

  abbrev searched_in : ℕ → Answer Place → Answer Place
  searched_in b next = cond (holds c book) (answered 0 (record { book = b; offset = key_place (entry c book) })) next

  found_there : (b offset : ℕ) (next : Answer Place) → Some offset ≡ key_in
      → answered 0 (record { book = b; offset = offset }) ≡ searched_in b next
  found_there b offset next e = by (holds c book) (key_place (entry c book)) e
    where
      by : (t : Bool) (p : ℕ) → Some offset ≡ cond t (Some p) None
          → answered 0 (record { book = b; offset = offset })
          ≡ cond t (answered 0 (record { book = b; offset = p })) next
      by true p e = let q : offset ≡ p = cc in rw q
      by false p e = cc

  found_elsewhere : (b : ℕ) (next : Answer Place) → None ≡ key_in → next ≡ searched_in b next
  found_elsewhere b next e = by (holds c book) (key_place (entry c book)) e
    where
      by : (t : Bool) (p : ℕ) → None ≡ cond t (Some p) None
          → next ≡ cond t (answered 0 (record { book = b; offset = p })) next
      by true p e = cc
      by false p e = refl

-- neither book is badly formed, so both are searched
module _ (thisTerm lastTerm : List ℕ) (c : ℕ) (formed : 0 ≡ number_of (badly_formed thisTerm lastTerm)) where
  searched : searched_in c thisTerm 0 (searched_in c lastTerm 1 (answered 11 nowhere)) ≡ finding thisTerm lastTerm c
  unfolding finding
  searched =
      by (holds c thisTerm) (holds c lastTerm) _ _
      ∙ sym (refuse-clear nowhere (answer (no_entry thisTerm lastTerm c) (placed thisTerm lastTerm c) nowhere)
      (badly_formed thisTerm lastTerm) (goes-on (badly_formed thisTerm lastTerm) formed tt))
    where
      by : (t u : Bool) (a b : Place) → cond t (answered 0 a) (cond u (answered 0 b) (answered 11 nowhere))
          ≡ cond (not (t || u)) (answered 11 nowhere) (answered 0 (cond t a b))
      by true u a b = refl
      by false true a b = refl
      by false false a b = refl

  pub in-this : (offset : ℕ) → Some offset ≡ key_in c thisTerm → Finding 0 thisTerm lastTerm c 0 offset
  in-this offset e = found_there c thisTerm 0 offset _ e ∙ searched

  -- the last search's answer is handed on by `ok_or`
  module _ (missed : None ≡ key_in c thisTerm) (r : Option ℕ) (er : r ≡ key_in c lastTerm) where
    pub in-last : (offset : ℕ) → Ok offset ≡ ok_or r ClassMissing → Finding 0 thisTerm lastTerm c 1 offset
    in-last offset e =
        found_there c lastTerm 1 offset (answered 11 nowhere) (some r e ∙ er)
        ∙ found_elsewhere c thisTerm 0 _ missed ∙ searched
      where
        some : (o : Option ℕ) → Ok offset ≡ ok_or o ClassMissing → Some offset ≡ o
        some (Some x) q = let w : offset ≡ x = cc in rw w
        some None q = cc

    pub in-neither : (why : Refusal) → Err why ≡ ok_or r ClassMissing
        → Finding (number_of_refusal why) thisTerm lastTerm c 0 0
    in-neither why e =
        let w = none r e in
        ap (λ (n : ℕ). answered n nowhere) w.1
        ∙ found_elsewhere c lastTerm 1 (answered 11 nowhere) (sym w.0 ∙ er)
        ∙ found_elsewhere c thisTerm 0 _ missed ∙ searched
      where
        none : (o : Option ℕ) → Err why ≡ ok_or o ClassMissing → (o ≡ None) × (number_of_refusal why ≡ 11)
        none (Some x) q = cc
        none None q = (refl, let w : why ≡ ClassMissing = cc in ap number_of_refusal w)
