-- What the block functions make, from what their calls ensure.
use mathlib.Core.Path.{◌≡◌, refl, sym, ap, ap₂, ◌∙◌}
use mathlib.Core.Bool.{Bool, true, false, cond}
use mathlib.Core.List.{List, []}
use Prim.Native.Nat.{ℕ, zero, suc, ◌+◌, ◌*◌, ◌/◌, ◌%◌, ◌^◌, ◌<◌}
use native.Mathlib.Omega.{arith}
use lib.Bits.{bit_xor}
use lib.Dec.{eqb}
use lib.ListN.{take, drop, replicate}
use lib.Pow.{high, low as low-digits}
use lib.Seq.{take-take}
use Rattle.words.specs.declared.Block.{Block}
use Rattle.words.specs.Block.{value, halves, part, loaded, loaded_pad, stored}
use Rattle.words.specs.Bytes.{Bytes, number, bytes, pad}
use Rattle.words.proofs.Blocks.{value-halves, halves-value, value-is, stored_back}
use Rattle.words.proofs.Bytes.{number-split}
use Rattle.words.proofs.Lists.{drop-take}
use Rattle.words.proofs.Plus.{plus-take, bytes-xor}
use Rattle.words.proofs.Tests.{cond_of}
use Rattle.words.proofs.WordLists.{loaded_word, word_lt}
use Rattle.mode.specs.Hyena as mode
use Rattle.mode.specs.Hyena.{double, doubles, output, feedback, feed, start_block, data_first, data_each, data_last}
use Rattle.mode.specs.Hyena.{text_block, swapped}
use Rattle.hyena_blocks.specs.declared.StateY.{StateY}
use Rattle.hyena_blocks.specs.declared.StateX.{StateX}
use Rattle.hyena_blocks.specs.declared.Fed.{Fed}
use Rattle.hyena_blocks.specs.Steps.{low, held_y, held_x, read_y, read_x}

-- ---- doubling

pub double-is : (x : ℕ) → x < 2 ^ 64 → bit_xor (x * 2 % 2 ^ 64) (x / 2 ^ 63 * 0x1B) ≡ double x
unfolding double
double-is x h = ap (bit_xor (x * 2 % 2 ^ 64)) (top (x / 2 ^ 63) (omega arith))
  where
    top : (b : ℕ) → b < 2 → b * 0x1B ≡ cond (eqb b 1) 0x1B 0
    top zero l = refl
    top (suc zero) l = refl
    top (suc (suc b)) l = absurd (omega arith)

-- ---- feedback

-- the low bytes of a sum
pub low-xor : (n x y : ℕ) → low n (bit_xor x y) ≡ output (low n x) y
unfolding output
low-xor n x y = ap (take n) (bytes-xor 16 x y) ∙ sym (plus-take n (bytes 16 x) (bytes 16 y))

pub padded-is : (s : List ℕ) (n x : ℕ) {b : Block} → s ≡ stored (replicate 16 0) 0 n x → b ≡ halves (loaded_pad s 0 n)
    → b ≡ halves (number (pad (low n x)))
unfolding loaded_pad
padded-is s n x es eb =
    eb ∙ ap (λ (l : List ℕ). halves (number (pad l)))
    (ap (λ (l : List ℕ). part l 0 n) es ∙ stored_back (replicate 16 0) n x refl)

pub feedback-is : (t : Bool) (y d o m c : Block) (mask n : ℕ) {r : Block} → o ≡ halves (bit_xor (value d) (value y))
    → m ≡ halves (number (pad (low n (value (cond t o d))))) → c ≡ halves (number (pad (low n (value (cond t d o)))))
    → r ≡ halves (bit_xor (value y) (value (record { lo = bit_xor c.lo mask; hi = m.hi })))
    → r ≡ halves (feed t (value y) mask (low n (value d)))
unfolding feed feedback value halves
feedback-is t y d o m c mask n eo em ec er =
    let s = low n (value d) in
    let out : low n (value o) ≡ output s (value y) = ap (low n) (value-is eo) ∙ low-xor n (value d) (value y) in
    let side_m : low n (value (cond t o d)) ≡ cond t (output s (value y)) s =
    cond_of (λ b. low n (value b)) t o d ∙ ap (λ l. cond t l s) out in
    let side_c : low n (value (cond t d o)) ≡ cond t s (output s (value y)) =
    cond_of (λ b. low n (value b)) t d o ∙ ap (λ l. cond t s l) out in
    er
    ∙ ap₂ (λ (hi lo : ℕ). halves (bit_xor (value y) (hi * 2 ^ 64 + bit_xor lo mask)))
    (ap (λ (b : Block). b.hi) em ∙ ap (λ (l : List ℕ). number (pad l) / 2 ^ 64) side_m)
    (ap (λ (b : Block). b.lo) ec ∙ ap (λ (l : List ℕ). number (pad l) % 2 ^ 64) side_c)

-- ---- the start

marks-are : (p q : Bool) → cond {A = ℕ} p (cond q 3 1) 0 ≡ cond p (cond q 1 0) 0 * 2 + cond p 1 0
marks-are true true = refl
marks-are true false = refl
marks-are false q = refl

pub start_is : (nonce : List ℕ) (a d m : ℕ) {p q : Block} → Bytes nonce → p ≡ halves (loaded nonce 0 4)
    → q ≡ halves (loaded nonce 4 8)
    → m ≡ cond (eqb a 0) (cond (eqb d 0) 3 1) 0 → value (record { lo = p.lo * 2 ^ 32 % 2 ^ 64 + m; hi = q.lo })
    ≡ start_block (take 12 nonce) a d
unfolding value start_block
start_is nonce a d m {p} {q} h ep eq em =
    let lo : p.lo ≡ number (take 4 nonce) = loaded_word nonce h 0 4 ep (omega arith) in
    let small : number (take 4 nonce) < 2 ^ 32 = word_lt nonce h 0 4 in
    let hi : q.lo ≡ number (take 8 (drop 4 nonce)) = loaded_word nonce h 4 8 eq (omega arith) in
    let whole : number (take 12 nonce) ≡ number (take 8 (drop 4 nonce)) * 2 ^ 32 + number (take 4 nonce) =
    number-split 4 (take 12 nonce) ∙ ap₂ (λ (s t : List ℕ). number s * 2 ^ 32 + number t) (drop-take 4 12 nonce)
    (take-take 4 12 nonce (omega arith)) in
    omega (arith, lo, small, hi, whole, em ∙ marks-are (eqb a 0) (eqb d 0))

-- ---- the states as the code holds them

pub held-read_y : (b : StateY) → b.y.lo < 2 ^ 64 → b ≡ held_y (read_y b)
unfolding held_y
held-read_y b h = ap (λ (y : Block). record { y = y; mask = b.mask }) (sym (halves-value b.y h))

pub read_y-held : (f : mode.StateY) → read_y (held_y f) ≡ f
unfolding held_y
read_y-held f = ap (λ (y : ℕ). record { Y = y; Δ = f.Δ }) (value-halves f.Y)

pub held-read_x : (t : StateX) → t.x.lo < 2 ^ 64 → t ≡ held_x (read_x t)
unfolding held_x
held-read_x t h = ap (λ (x : Block). record { x = x; mask = t.mask }) (sym (halves-value t.x h))

pub read_x-held : (t : mode.StateX) → t.out ≡ [] → read_x (held_x t) ≡ t
unfolding held_x
read_x-held t e = ap₂ (λ (x : ℕ) (o : List ℕ). record { X = x; Δ = t.Δ; out = o }) (value-halves t.X) (sym e)

-- ---- the steps

pub data-last-is : (b : StateY) (k n : ℕ) (d : Block) {mask : ℕ} {x : Block} → mask ≡ doubles k b.mask
    → x ≡ halves (feed false (value b.y) mask (low n (value d)))
    → record { x = x; mask = mask } ≡ held_x (data_last k (read_y b) (low n (value d)))
unfolding held_x data_last
data-last-is b k n d em ex = rw (ex, em)

pub data-block-is : (E : ℕ → ℕ) (b : StateY) (d : Block) {x y : Block} {mask : ℕ}
    → x ≡ halves (feed false (value b.y) b.mask (low 16 (value d))) → y ≡ halves (E (value x))
    → mask ≡ double b.mask → record { y = y; mask = mask } ≡ held_y (data_each E (read_y b) (low 16 (value d)))
unfolding held_y data_each
data-block-is E b d ex ey em = rw (em, ey, value-is ex)

pub text-block-is : (E : ℕ → ℕ) (opening : Bool) (t : StateX) (k n : ℕ) (d : Block) {mask : ℕ} {x y o : Block}
    → mask ≡ doubles k t.mask → y ≡ halves (E (value t.x))
    → x ≡ halves (feed opening (value y) mask (low n (value d))) → o ≡ halves (bit_xor (value d) (value y))
    → ◌≡◌ {A = Fed} (record { state = record { x = x; mask = mask }; out = o })
    (record {
      state = held_x (text_block E opening k (read_x t) (low n (value d)));
      out = halves (bit_xor (value d) (E (value t.x)));
    })
unfolding held_x text_block
text-block-is E opening t k n d em ey ex eo = rw (eo, ex, em, value-is ey)

pub swapped-is : (x : Block) → x.lo < 2 ^ 64 → value (record { lo = x.hi; hi = x.lo }) ≡ swapped (value x)
unfolding value swapped
swapped-is x h = ap₂ (λ (l r : ℕ). l * 2 ^ 64 + r) (sym (low-digits x.hi 64 h)) (sym (high x.hi 64 h))

pub started-is : (E : ℕ → ℕ) (n : ℕ) (x : Block) {y : Block} {mask : ℕ} → value x ≡ n → y ≡ halves (E (value x))
    → mask ≡ double y.lo
    → record { y = y; mask = mask } ≡ held_y (data_first (E n))
unfolding held_y data_first halves
started-is E n x ex ey em = rw (em, ey, ex)
