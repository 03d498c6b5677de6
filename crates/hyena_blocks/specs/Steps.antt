-- How the code holds a cipher with its key, blocks and states: blocks in halves.
use Rattle.std.specs.Prelude.{ℕ, Bool, List, [], take}
use Rattle.std.specs.Int.Bits.{bit_xor}
use Rattle.words.specs.declared.Block.{Block}
use Rattle.words.specs.Block.{value, halves}
use Rattle.words.specs.Bytes.{bytes}
use Rattle.gift.specs.Entry as gift
use Rattle.hyena_blocks.specs.declared.keyed.Keyed.{Keyed}
use Rattle.hyena_blocks.specs.declared.StateY.{StateY}
use Rattle.hyena_blocks.specs.declared.StateX.{StateX}
use Rattle.hyena_blocks.specs.declared.Fed.{Fed}
use Rattle.mode.specs.Hyena as mode
use Rattle.mode.specs.Hyena.{start_block, data_first, data_each, data_last, text_block, swapped}

-- GIFT-128 under the key k, and the block function of a cipher with its key
unfoldable pub keyed : ℕ → Keyed
keyed k = record { keys = gift.round_keys k }

unfoldable pub enciphers : Keyed → ℕ → ℕ
enciphers e x = gift.enciphers e.keys x

-- the first n bytes of a block
abbrev pub low : ℕ → ℕ → List ℕ
low n x = take n (bytes 16 x)

-- the states as the code holds them, and back; the output so far is in the caller's room
unfoldable pub held_y : mode.StateY → StateY
held_y f = record { y = halves f.Y; mask = f.Δ }

unfoldable pub held_x : mode.StateX → StateX
held_x t = record { x = halves t.X; mask = t.Δ }

abbrev pub read_y : StateY → mode.StateY
read_y b = record { Y = value b.y; Δ = b.mask }

abbrev pub read_x : StateX → mode.StateX
read_x t = record { X = value t.x; Δ = t.mask; out = [] }

-- ---- what each block function answers: the definition's step, as the code holds it

abbrev pub started : Keyed → List ℕ → ℕ → ℕ → StateY
started e nonce a d = held_y (data_first (enciphers e (start_block (take 12 nonce) a d)))

abbrev pub data_fed : Keyed → StateY → Block → StateY
data_fed e b d = held_y (data_each (enciphers e) (read_y b) (low 16 (value d)))

abbrev pub data_ended : StateY → ℕ → Block → ℕ → StateX
data_ended b k d n = held_x (data_last k (read_y b) (low n (value d)))

abbrev pub text_fed : Bool → Keyed → StateX → ℕ → Block → ℕ → Fed
text_fed opening e t k d n =
    record {
      state = held_x (text_block (enciphers e) opening k (read_x t) (low n (value d)));
      out = halves (bit_xor (value d) (enciphers e (value t.x)));
    }

abbrev pub tagged : Keyed → StateX → Block
tagged e t = halves (enciphers e (swapped (value t.x)))
