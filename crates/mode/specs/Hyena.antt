-- HyENA, as document 01's section of that name fixes it; the sentences in quotes are its own. It stands over any block
-- function E. Blocks are numbers below 2 ^ 128, masks below 2 ^ 64, texts lists of bytes. The direction is a Bool, true
-- for opening. "All sums in this section are by exclusive or."
use Rattle.std.specs.Prelude.{ℕ, ◌+◌, ◌-◌, ◌*◌, ◌/◌, ◌%◌, ◌^◌, Bool, false, cond, List, [], ◌++◌, eqb, length, drop}
use Rattle.std.specs.Int.Bits.{bit_xor}
use Rattle.words.specs.Block.{part}
use Rattle.words.specs.Bytes.{number, bytes, pad, plus}
use Rattle.words.specs.Iterate.{iterate}

-- "For a block S, SL is its upper 64 bits and SR its lower 64."
abbrev pub upper : ℕ → ℕ
upper s = s / 2 ^ 64

abbrev pub lower : ℕ → ℕ
lower s = s % 2 ^ 64

-- the block of two halves
abbrev pub joined : ℕ → ℕ → ℕ
joined l r = l * 2 ^ 64 + r

-- "with its halves swapped"
unfoldable pub swapped : ℕ → ℕ
swapped x = joined (lower x) (upper x)

-- "Doubling is in the field with x^64 + x^4 + x^3 + x + 1: shift left by one, and add 0x1B if the top bit was set."
unfoldable pub double : ℕ → ℕ
double x = bit_xor (x * 2 % 2 ^ 64) (cond (eqb (x / 2 ^ 63) 1) 0x1B 0)

-- k times
abbrev pub doubles : ℕ → ℕ → ℕ
doubles k x = iterate (λ i. double) k x

-- ---- "Text and associated data are cut into blocks of 16 bytes from the front; the last has 1 to 16 bytes."

abbrev pub empty : List ℕ → Bool
empty s = eqb (length s) 0

-- how many blocks stand before the last
abbrev pub before : List ℕ → ℕ
before s = (length s - 1) / 16

-- block i of those
abbrev pub block_at : List ℕ → ℕ → List ℕ
block_at s i = part s (16 * i) 16

abbrev pub last : List ℕ → List ℕ
last s = drop (16 * before s) s

abbrev pub full : List ℕ → Bool
full d = eqb (length d) 16

-- "for each block but the last" one thing: the state before block i
abbrev pub walked : {A : Type 0} → (A → List ℕ → A) → List ℕ → A → ℕ → A
walked each s t i = iterate (λ j u. each u (block_at s j)) i t

-- "For the last" another
unfoldable pub walk : {A B : Type 0} → (A → List ℕ → A) → (A → List ℕ → B) → A → List ℕ → B
walk each final t s = final (walked each s t (before s)) (last s)

-- ---- "Feedback of D into state Y with mask Δ."

-- "Sealing: the output is D plus the low bits of Y. Opening: the same sum gives the text."
unfoldable pub output : List ℕ → ℕ → List ℕ
output d y = plus d (bytes 16 y)

-- "Let M be the text side and C the cipher side. The new state X is Y plus the block with upper half Pad(M)L and lower
-- half Pad(C)R plus Δ."
unfoldable pub feedback : ℕ → ℕ → List ℕ → List ℕ → ℕ
feedback y Δ m c = bit_xor y (joined (upper (number (pad m))) (bit_xor (lower (number (pad c))) Δ))

unfoldable pub feed : Bool → ℕ → ℕ → List ℕ → ℕ
feed opening y Δ d = feedback y Δ (cond opening (output d y) d) (cond opening d (output d y))

-- ---- "Start: Y = E(nonce in the top 96 bits, then zeros, then b1, b0). b0 is 1 when the associated data is empty, b1
-- when text is empty too. In opening, ciphertext length stands for text length."

-- of the nonce and the two lengths
unfoldable pub start_block : List ℕ → ℕ → ℕ → ℕ
start_block nonce a d =
    let b0 : ℕ = cond (eqb a 0) 1 0 in
    let b1 : ℕ = cond (eqb a 0) (cond (eqb d 0) 1 0) 0 in
    number nonce * 2 ^ 32 + (b1 * 2 + b0)

-- ---- the states

-- state Y, into which a block is fed
pub record StateY : Type 0 where
  pub Y : ℕ
  pub Δ : ℕ

-- "The new state X", the mask that the block was fed with, and the output so far
pub record StateX : Type 0 where
  pub X : ℕ
  pub Δ : ℕ
  pub out : List ℕ

-- ---- "Associated data: Δ is YR doubled once."

unfoldable pub data_first : ℕ → StateY
data_first y = record { Y = y; Δ = double (lower y) }

-- double k times, then feed; "Each is fed as in sealing, in opening too. Outputs here are dropped."
unfoldable pub data_last : ℕ → StateY → List ℕ → StateX
data_last k f d = record { X = feed false f.Y (doubles k f.Δ) d; Δ = doubles k f.Δ; out = [] }

module _ (E : ℕ → ℕ) where
  -- "feed it, take Y = E(X), double Δ"
  unfoldable pub data_each : StateY → List ℕ → StateY
  data_each f d = record { Y = E (feed false f.Y f.Δ d); Δ = double f.Δ }

  -- the state before block i
  abbrev pub data_at : List ℕ → StateY → ℕ → StateY
  data_at a f i = walked data_each a f i

  -- "If empty, double twice more and feed the block with value 1. Otherwise for each block but the last .. For the
  -- last: double once if full, twice if partial, then feed."
  unfoldable pub after_data : StateY → List ℕ → StateX
  after_data f a =
      cond (empty a) (data_last 2 f (bytes 16 1)) (walk data_each (λ g d. data_last (cond (full d) 1 2) g d) f a)

  -- ---- "Text, if not empty"

  -- double k times, "Y = E(X), feed"
  unfoldable pub text_block : Bool → ℕ → StateX → List ℕ → StateX
  text_block opening k t d =
      record {
        X = feed opening (E t.X) (doubles k t.Δ) d;
        Δ = doubles k t.Δ;
        out = t.out ++ output d (E t.X);
      }

  -- the state before block i
  abbrev pub text_at : Bool → List ℕ → StateX → ℕ → StateX
  text_at opening s t i = walked (text_block opening 1) s t i

  -- "for each block but the last: double Δ, Y = E(X), feed. For the last: double twice if full, three times if partial,
  -- Y = E(X), feed."
  unfoldable pub after_text : Bool → StateX → List ℕ → StateX
  after_text opening t s =
      cond (empty s) t (walk (text_block opening 1) (λ u d. text_block opening (cond (full d) 2 3) u d) t s)

  -- ---- all of it

  -- start and associated data, for a text of n bytes
  abbrev pub begun : List ℕ → List ℕ → ℕ → StateX
  begun nonce a n = after_data (data_first (E (start_block nonce (length a) n))) a

  unfoldable pub ended : Bool → List ℕ → List ℕ → List ℕ → StateX
  ended opening nonce a d = after_text opening (begun nonce a (length d)) d

  -- the ciphertext, or the text
  unfoldable pub outputs : Bool → List ℕ → List ℕ → List ℕ → List ℕ
  outputs opening nonce a d = (ended opening nonce a d).out

  -- "Tag: E of X with its halves swapped."
  unfoldable pub tag : Bool → List ℕ → List ℕ → List ℕ → ℕ
  tag opening nonce a d = E (swapped (ended opening nonce a d).X)
