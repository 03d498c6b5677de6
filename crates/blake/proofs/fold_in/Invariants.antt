use Rattle.std.proofs.Common.{◌≡◌, ℕ, ◌+◌, ◌<◌, ◌≤◌, length, get_or}
use lib.Bits.{bit_xor}
use Rattle.blake.proofs.fold_in.Given as goal

abbrev pub invariant-loop-i : goal.invariant-loop-i
invariant-loop-i l =
    (length l.h ≡ 8)
    × ((j : ℕ) → j < l.i
    → get_or l.h j 0 ≡ bit_xor (bit_xor (get_or l.initial.h j 0) (get_or l.v j 0)) (get_or l.v (j + 8) 0))
    × ((j : ℕ) → l.i ≤ j → get_or l.h j 0 ≡ get_or l.initial.h j 0)
