use mathlib.Core.Path.{◌≡◌, refl, ap, ◌∙◌}
use mathlib.Core.List.{List}
use Prim.Native.Nat.{ℕ, ◌<◌}
use lib.ListN.{get_or}
use Rattle.words.specs.Digits.{tab}
use Rattle.words.proofs.Lists.{tab-at}
use Rattle.gift.specs.Gift.{place}
use Rattle.gift.specs.Entry.{place_table}
use Rattle.gift.proofs.ends.Goals as goal

-- what was read from the table is the place
read : (t : List ℕ) (i p : ℕ) → p ≡ get_or t i 0 → t ≡ place_table → i < 128 → p ≡ place i
read t i p e is h = e ∙ ap (λ t. get_or t i 0) is ∙ tab-at place 0 128 i h

pub returns-then-back : goal.returns-then-back
unfolding tab place
returns-then-back c =
    let e : c.from-i_place.result ≡ place c.args.i = read _ _ _ c.from-i_place.ensures refl c.requires in
    rw (e, c.if-back.true)

pub returns-else-back : goal.returns-else-back
unfolding tab place
returns-else-back c =
    let e : c.from-i_place.result ≡ place c.args.i = read _ _ _ c.from-i_place.ensures refl c.requires in
    rw (e, c.if-back.false)
