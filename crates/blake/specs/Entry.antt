-- What the digest's entry point answers.
use Rattle.std.specs.Prelude.{◌≡◌, ℕ, List, [], ◌∷◌, length, ◌==◌, nat_lt}
use Rattle.answers.specs.Answers.{Row, Answer, answered, answer}
use Rattle.blake.specs.Blake.{digest}

-- of the lengths: 1 "key has a wrong length", 4 "text or block length not allowed", 6 "room too short (digest: not 1 to
-- 64)"
abbrev pub rows : ℕ → ℕ → ℕ → List Row
rows key text room =
    record { applies = nat_lt 64 key; number = 1 }
    ∷ record { applies = nat_lt 1048576 text; number = 4 }
    ∷ record { applies = (room == 0); number = 6 }
    ∷ record { applies = nat_lt 64 room; number = 6 }
    ∷ []

-- the number that is answered, and the bytes of the room then: "The digest has the length of its room."
unfoldable pub digesting : List ℕ → List ℕ → List ℕ → Answer (List ℕ)
digesting key text room = answer (rows (length key) (length text) (length room)) (digest key text (length room)) room

abbrev pub Digesting : ℕ → List ℕ → List ℕ → List ℕ → List ℕ → Type 0
Digesting r key text room room' = answered r room' ≡ digesting key text room
