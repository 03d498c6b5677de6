use Rattle.std.proofs.Common.{◌≡◌, ℕ, ◌+◌, ◌-◌, ◌*◌, length, set}
use Rattle.words.specs.Bytes.{plus_at}
use Rattle.chacha.specs.ChaCha.{start_state, blocks, key_stream, stream}
use Rattle.chacha.proofs.stream_from.Given as goal

abbrev pub invariant-loop-i : goal.invariant-loop-i
invariant-loop-i l =
    (length l.s ≡ 16) × ((x : ℕ) → set l.s 12 x ≡ start_state l.key l.nonce x) × (l.c ≡ l.counter + l.i)
    × (plus_at (64 * l.i) l.text (key_stream l.key l.nonce (l.counter + l.i) (blocks (length l.initial.text) - l.i))
    ≡ stream l.key l.nonce l.counter l.initial.text)
