-- Document 01's twelve worked examples ("Twelve cards to prove"), as a single table.
use Rattle.std.specs.Prelude.{ℕ, false, List, [], ◌∷◌, replicate}
use Rattle.words.specs.Bytes.{pad}
use Rattle.gift.specs.Gift.{sbox, place, round_const}
use Rattle.mode.specs.Hyena.{double}
use Rattle.blake.specs.Blake.{parameter}

-- an example: what a definition gives, and what the document says
pub record Example : Type 0 where
  pub given : List ℕ
  pub said : List ℕ

-- an example of one number
abbrev pub one : ℕ → ℕ → Example
one given said = record { given = given ∷ []; said = said ∷ [] }

unfoldable pub table : List Example
table =
    one (sbox false 0x0) 0x1
    ∷ one (sbox false 0xF) 0xE
    ∷ one (place 1) 33
    ∷ one (place 4) 96
    ∷ one (place 5) 1
    ∷ one (place 127) 31
    ∷ one (round_const 7) 0x3D
    ∷ one (round_const 40) 0x1A
    ∷ one (double 0x8000000000000000) 0x1B
    ∷ one (double 0xC000000000000000) 0x800000000000001B
    ∷ record { given = pad (0xAB ∷ []); said = 0xAB ∷ 0x01 ∷ replicate 14 0 }
    ∷ one (parameter 44 64) 0x01012C40
    ∷ []
