-- Numbers in decimal.
use Rattle.std.specs.Prelude.{ℕ, ◌+◌, ◌-◌, ◌*◌, ◌^◌, Bool, true, cond, ◌&&◌, List, [], ◌∷◌, ltb, length}
use Rattle.std.specs.Prelude.{Option, Some, None}

unfoldable pub digits : List ℕ → Bool
digits [] = true
digits (b ∷ s) = ltb 47 b && ltb b 58 && digits s

-- the number v with the digits of s behind it
unfoldable pub behind : ℕ → List ℕ → ℕ
behind v [] = v
behind v (b ∷ s) = behind (v * 10 + (b - 48)) s

-- d with the word s behind it: a number, where d was one, s is digits and it is below 2^64
unfoldable pub from : Option ℕ → List ℕ → Option ℕ
from None s = None
from (Some v) s = cond (digits s && ltb (behind v s) (2 ^ 64)) (Some (behind v s)) None

-- a number is one digit or more
unfoldable pub reading : List ℕ → Option ℕ
reading word = from (cond (ltb 0 (length word)) (Some 0) None) word

-- the value of a digit
unfoldable pub digit : ℕ → Option ℕ
digit b = cond (ltb 47 b && ltb b 58) (Some (b - 48)) None
