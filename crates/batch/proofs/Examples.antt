-- The refusals computed, at the limits that K3 names.
use mathlib.Core.Path.{◌≡◌, refl}
use mathlib.Core.List.{List, [], ◌∷◌}
use Prim.Native.Nat.{ℕ, ◌-◌, ◌*◌, ◌^◌}
use lib.ListN.{replicate}
use Rattle.answers.specs.Answers.{number_of}
use Rattle.lengths.specs.Lengths.{total, any_above}
use Rattle.drawer.specs.Drawer.{started}
use Rattle.batch.specs.Batch.{rows}

-- a key of 16 bytes, no associated data, room as long as the text: the number for a text, lengths, draws left, tags
abbrev judged : ℕ → List ℕ → ℕ → ℕ → ℕ
judged text lengths left tags = number_of (rows 16 0 text lengths (started 1 (2 ^ 64 - 1 - left)) text tags)

-- "4 for any single length above 1,048,576, never for the whole text", also beyond twelve, and whatever they add up to
pub four : ◌≡◌ {A = List ℕ}
    (judged (12 * 1048576) (replicate 12 1048576) 12 192 ∷ judged 1048577 (1048577 ∷ []) 1 16
    ∷ judged 5 ((2 ^ 64 - 1) ∷ 6 ∷ []) 2 32 ∷ judged 12 (1048577 ∷ replicate 12 0) 13 208 ∷ [])
    (0 ∷ 4 ∷ 4 ∷ 4 ∷ [])
unfolding total any_above
four = refl

-- "5 when the tag room isn't 16 bytes for each length listed"
pub five : ◌≡◌ {A = List ℕ}
    (judged 0 (0 ∷ []) 1 15 ∷ judged 0 (0 ∷ []) 1 32 ∷ judged 0 [] 0 16 ∷ judged 0 (replicate 13 0) 0 192 ∷ [])
    (5 ∷ 5 ∷ 5 ∷ 5 ∷ [])
unfolding total any_above
five = refl

-- "9 here exactly when fewer draws remain than lengths listed, so never for no cards"
pub nine : ◌≡◌ {A = List ℕ}
    (judged 0 (replicate 12 0) 11 192 ∷ judged 0 (replicate 12 0) 12 192 ∷ judged 0 (replicate 13 0) 12 208
    ∷ judged 0 [] 0 0 ∷ [])
    (9 ∷ 0 ∷ 9 ∷ 18 ∷ [])
unfolding total any_above
nine = refl

-- "18, last in order, when there are no cards, more than 12, or lengths that don't add up to the text"
pub eighteen : ◌≡◌ {A = List ℕ}
    (judged 0 [] 1 0 ∷ judged 13 (replicate 13 1) 13 208 ∷ judged 17 (16 ∷ []) 1 16 ∷ judged 17 (18 ∷ []) 1 16
    ∷ judged 17 (0 ∷ 17 ∷ 0 ∷ []) 3 48 ∷ [])
    (18 ∷ 18 ∷ 18 ∷ 18 ∷ 0 ∷ [])
unfolding total any_above
eighteen = refl
