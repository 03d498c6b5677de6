-- Whether two lists are the same, and where a number first stands.
use Rattle.std.specs.Prelude.{ℕ, suc, ◌+◌, ◌-◌, min, Bool, true, false, cond, ◌&&◌, List, [], ◌∷◌, eqb, drop}

-- whether two lists are the same
unfoldable pub same : List ℕ → List ℕ → Bool
same [] [] = true
same [] (c ∷ t) = false
same (b ∷ s) [] = false
same (b ∷ s) (c ∷ t) = eqb b c && same s t

-- the place of the first number that is c; where none is, how many there are
unfoldable pub place_of : ℕ → List ℕ → ℕ
place_of c [] = 0
place_of c (a ∷ s) = cond (eqb a c) 0 (suc (place_of c s))

-- the same from place `from` on, and no further than `to`
abbrev pub finding : List ℕ → ℕ → ℕ → ℕ → ℕ
finding s from to c = from + min (to - from) (place_of c (drop from s))
