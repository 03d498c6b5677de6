-- The entry point: a batch that is refused, and one that is not.
use mathlib.Core.Path.{◌≡◌, refl, sym, ap, ◌∙◌}
use mathlib.Core.List.{List}
use Prim.Native.Nat.{ℕ}
use borrow.Author.Tests.{eqb-true, eqb-false, not-false, ltb-false}
use Rattle.std.specs.Prelude.{Err}
use Rattle.answers.specs.declared.Refusal.{Refusal}
use Rattle.answers.specs.Told.{number_of_refusal}
use Rattle.answers.specs.Answers.{number_of, answered}
use Rattle.answers.proofs.Answers.{Clear, refuse-clear, handed-on, goes-on, answer-done}
use Rattle.drawer.specs.declared.Drawer.{Drawer}
use Rattle.batch.specs.Batch.{Inputs, Sealed, singly, refusals, batching, Batching}
use Rattle.batch.specs.Steps.{Allowed}

pub allowed : (b : Inputs) (room tags : List ℕ) → Clear (refusals b room tags) → Allowed b room tags
allowed b room tags (key, («data», (long, (tag, (fits, (left, (none, (more, (sum, end))))))))) =
    record {
      key-16 = eqb-true _ _ (not-false _ key);
      data-most = ltb-false _ _ «data»;
      none-long = long;
      tags-16 = eqb-true _ _ (not-false _ tag);
      room_fits = ltb-false _ _ fits;
      draws-left = ltb-false _ _ left;
      some = eqb-false _ _ none;
      whole = eqb-true _ _ (not-false _ sum);
    }

-- all cards of a batch, one after another
abbrev pub each_card : Inputs → List ℕ → List ℕ → Sealed
each_card b room tags = singly b.key b.«data» b.texts b.lengths b.drawer room tags

-- ---- what the code judges it by

module _ (b : Inputs) (room tags : List ℕ) where
  pub refused-is : (why : Refusal) → number_of_refusal why ≡ number_of (refusals b room tags)
      → Batching (number_of_refusal why) b room tags room tags b.drawer
  unfolding batching
  refused-is why e = handed-on {B = Unit {0}} (Err why) (refusals b room tags) e refl _ _

  module _ (e : 0 ≡ number_of (refusals b room tags)) where
    pub not-refused : Allowed b room tags
    not-refused = allowed b room tags (goes-on (refusals b room tags) e tt)

    pub sealed-is : {room' tags' : List ℕ} {next : Drawer}
        → ◌≡◌ {A = Sealed} (record { room = room'; tags = tags'; next = next }) (each_card b room tags)
        → Batching 0 b room tags room' tags' next
    unfolding batching
    sealed-is es =
        ap (answered 0) es ∙ sym (refuse-clear _ _ (refusals b room tags) (goes-on (refusals b room tags) e tt))

-- ---- a batch that is done

pub done-is : (b : Inputs) (room tags : List ℕ) → (batching b room tags).number ≡ 0
    → Allowed b room tags × (batching b room tags ≡ answered 0 (each_card b room tags))
unfolding batching
done-is b room tags e = let d = answer-done _ _ (refusals b room tags) tt e in (allowed b room tags d.0, d.1)
