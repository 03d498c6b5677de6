-- The code's steps by their numbers, one after another, and the lengths that are not refused.
use Rattle.std.specs.Prelude.{ℕ, ◌≤◌, ◌≡◌, List, [], ◌∷◌, length}
use Rattle.lioness.specs.declared.Step.{Step}
use Rattle.lioness.specs.declared.Step.TheVariants.{First, Second, Third, Fourth}
use Rattle.lioness.specs.Lioness.{step}
use Rattle.lioness.specs.Entry.{chacha, blake}

abbrev pub number_of_step : Step → ℕ
number_of_step First = 1
number_of_step Second = 2
number_of_step Third = 3
number_of_step Fourth = 4

-- the steps of a list, the first of them first
abbrev pub run : List ℕ → List ℕ → List Step → List ℕ → List ℕ
run key iv [] block = block
run key iv (s ∷ more) block = run key iv more (step chacha blake key iv (number_of_step s) block)

abbrev pub Allowed : List ℕ → List ℕ → List ℕ → Type 0
Allowed key iv block = (length key ≡ 128) × (length iv ≡ 48) × (33 ≤ length block) × (length block ≤ 1048608)
