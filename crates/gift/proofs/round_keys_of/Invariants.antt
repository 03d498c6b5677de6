use Prim.Native.Nat.{ℕ, ◌<◌}
use mathlib.Core.Path.{◌≡◌}
use lib.ListN.{length, get_or}
use Rattle.words.specs.Block.{value, halves}
use Rattle.gift.specs.Gift.{round_const, key_at, round_key}
use Rattle.gift.proofs.round_keys_of.Given as goal

abbrev pub invariant-loop-round_key : goal.invariant-loop-round_key
invariant-loop-round_key l =
    let k = value l.initial.state in
    (l.c < 64) × (l.c ≡ round_const l.round_key-index) × (l.state ≡ halves (key_at k l.round_key-index))
    × (length l.round_key-items ≡ 40)
    × ((j : ℕ) → j < l.round_key-index → get_or l.round_key-items j (halves 0) ≡ halves (round_key k j))
