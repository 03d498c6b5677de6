-- Texts that lie end to end, and a list of their lengths.
use Rattle.std.specs.Prelude.{ℕ, ◌+◌, Bool, false, ◌||◌, List, [], ◌∷◌, ltb, take, get_or}
use Rattle.words.specs.Block.{part}

-- what the lengths add up to
unfoldable pub total : List ℕ → ℕ
total [] = 0
total (n ∷ ns) = n + total ns

-- whether any of them is above a limit
unfoldable pub any_above : ℕ → List ℕ → Bool
any_above most [] = false
any_above most (n ∷ ns) = ltb most n || any_above most ns

-- where text i starts: behind those before it
abbrev pub start_of : List ℕ → ℕ → ℕ
start_of lengths i = total (take i lengths)

-- text i of those that lie end to end in s
abbrev pub text_at : List ℕ → List ℕ → ℕ → List ℕ
text_at lengths s i = part s (start_of lengths i) (get_or lengths i 0)
