-- States stay below 2 ^ 128 and masks below 2 ^ 64.
use mathlib.Core.Path.{◌≡◌, sym, ap, ap₂, subst, ◌∙◌}
use mathlib.Core.Bool.{Bool, true, false, cond}
use mathlib.Core.List.{List}
use Prim.Native.Nat.{ℕ, zero, suc, ◌+◌, ◌*◌, ◌/◌, ◌%◌, ◌^◌, ◌<◌}
use native.Mathlib.Nat.{mod-lt}
use lib.Arith.{digits_lt}
use lib.Bits.{bit_xor, xor_lt}
use lib.Dec.{eqb, lit<}
use lib.ListN.{length}
use lib.Pow.{pow_pos, shr_lt, high, low, split}
use Rattle.words.specs.Bytes.{Bytes, number, bytes, pad}
use Rattle.words.specs.Iterate.{iterate}
use Rattle.words.proofs.Bytes.{bytes-bytes, bytes-filled, length-filled, number_lt}
use Rattle.words.proofs.Plus.{bytes-plus}
use Rattle.words.proofs.Tests.{cond_has, cond-lt}
use Rattle.mode.specs.Demands.{Inverted}
use Rattle.mode.specs.Hyena.{StateY, StateX, upper, lower, joined, double, doubles, before, last, full, empty}
use Rattle.mode.specs.Hyena.{walk, output, feedback, feed, start_block, data_first, data_each, data_at, data_last}
use Rattle.mode.specs.Hyena.{after_data, text_block, text_at, after_text, swapped, begun, ended, tag}
use Rattle.mode.proofs.Cuts.{last-bytes, walk-keeps}

-- ---- halves

pub lower-lt : (x : ℕ) → lower x < 2 ^ 64
lower-lt x = mod-lt x (pow_pos 64)

pub upper_lt : {x : ℕ} → x < 2 ^ 128 → upper x < 2 ^ 64
upper_lt h = shr_lt 64 64 h

pub joined-inj : {h g l r : ℕ} → l < 2 ^ 64 → r < 2 ^ 64 → joined h l ≡ joined g r → (h ≡ g) × (l ≡ r)
joined-inj {h} {g} hl hr e =
    (sym (high h 64 hl) ∙ ap upper e ∙ high g 64 hr, sym (low h 64 hl) ∙ ap lower e ∙ low g 64 hr)

pub swapped-lt : {x : ℕ} → x < 2 ^ 128 → swapped x < 2 ^ 128
unfolding swapped
swapped-lt {x} h = digits_lt (lower-lt x) (upper_lt h)

pub swapped-inj : {x y : ℕ} → x < 2 ^ 128 → y < 2 ^ 128 → swapped x ≡ swapped y → x ≡ y
unfolding swapped
swapped-inj {x} {y} hx hy e =
    let q = joined-inj (upper_lt hx) (upper_lt hy) e in
    sym (split x 64) ∙ ap₂ joined q.1 q.0 ∙ split y 64

-- ---- doubling

double-lt : (x : ℕ) → double x < 2 ^ 64
unfolding double
double-lt x =
    xor_lt 64 (x * 2 % 2 ^ 64) (cond (eqb (x / 2 ^ 63) 1) 0x1B 0) (lower-lt (x * 2))
    (cond-lt (eqb (x / 2 ^ 63) 1) (lit< tt) (lit< tt))

pub doubles-lt : (k x : ℕ) → x < 2 ^ 64 → doubles k x < 2 ^ 64
unfolding iterate
doubles-lt zero x h = h
doubles-lt (suc k) x h = double-lt (doubles k x)

-- ---- feedback

pub pad-lt : (s : List ℕ) → Bytes s → number (pad s) < 2 ^ 128
pad-lt s h =
    subst (λ (n : ℕ). number (pad s) < 256 ^ n) (length-filled 1 16 s)
    (number_lt (pad s) (bytes-filled 1 16 s (lit< tt) h))

pub output-bytes : (d : List ℕ) (y : ℕ) → Bytes d → Bytes (output d y)
unfolding output
output-bytes d y h = bytes-plus d (bytes 16 y) h (bytes-bytes 16 y)

feedback-lt : (y Δ : ℕ) (m c : List ℕ) → y < 2 ^ 128 → Δ < 2 ^ 64 → Bytes m → feedback y Δ m c < 2 ^ 128
unfolding feedback
feedback-lt y Δ m c hy hΔ hm =
    xor_lt 128 y (joined (upper (number (pad m))) (bit_xor (lower (number (pad c))) Δ)) hy
    (digits_lt (upper_lt (pad-lt m hm)) (xor_lt 64 (lower (number (pad c))) Δ (lower-lt (number (pad c))) hΔ))

feed-lt : (opening : Bool) (y Δ : ℕ) (d : List ℕ) → y < 2 ^ 128 → Δ < 2 ^ 64 → Bytes d → feed opening y Δ d < 2 ^ 128
unfolding feed
feed-lt false y Δ d hy hΔ h = feedback-lt y Δ d (output d y) hy hΔ h
feed-lt true y Δ d hy hΔ h = feedback-lt y Δ (output d y) d hy hΔ (output-bytes d y h)

-- ---- the states

abbrev FedFits : StateY → Type 0
FedFits f = (f.Y < 2 ^ 128) × (f.Δ < 2 ^ 64)

abbrev pub Fits : StateX → Type 0
Fits t = (t.X < 2 ^ 128) × (t.Δ < 2 ^ 64)

start-lt : (nonce : List ℕ) (a d : ℕ) → Bytes nonce → length nonce ≡ 12 → start_block nonce a d < 2 ^ 128
unfolding start_block
start-lt nonce a d hn ln =
    digits_lt (subst (λ (n : ℕ). number nonce < 256 ^ n) ln (number_lt nonce hn)) (marks-lt (eqb a 0) (eqb d 0))
  where
    marks-lt : (p q : Bool) → cond {A = ℕ} p (cond q 1 0) 0 * 2 + cond p 1 0 < 2 ^ 32
    marks-lt true true = lit< tt
    marks-lt true false = lit< tt
    marks-lt false q = lit< tt

data_last-fits : (k : ℕ) (f : StateY) (d : List ℕ) → FedFits f → Bytes d → Fits (data_last k f d)
unfolding data_last
data_last-fits k f d p h =
    (feed-lt false f.Y (doubles k f.Δ) d p.0 (doubles-lt k f.Δ p.1) h, doubles-lt k f.Δ p.1)

module _ {E D : ℕ → ℕ} (inv : Inverted E D) where
  data_each-fits : (f : StateY) (d : List ℕ) → FedFits f → Bytes d → FedFits (data_each E f d)
  unfolding data_each
  data_each-fits f d p h = (inv.block _ (feed-lt false f.Y f.Δ d p.0 p.1 h), double-lt f.Δ)

  after_data-fits : (f : StateY) (a : List ℕ) → FedFits f → Bytes a → Fits (after_data E f a)
  unfolding after_data walk
  after_data-fits f a p h =
      cond_has Fits (empty a)
      (data_last-fits 2 f (bytes 16 1) p (bytes-bytes 16 1))
      (data_last-fits (cond (full (last a)) 1 2) (data_at E a f (before a)) (last a)
      (walk-keeps (data_each E) FedFits data_each-fits f a (before a) p h) (last-bytes a h))

  -- after the associated data
  pub begun-fits : (nonce a : List ℕ) (n : ℕ) → Bytes nonce → length nonce ≡ 12 → Bytes a → Fits (begun E nonce a n)
  unfolding data_first
  begun-fits nonce a n hn ln ha =
      let y = E (start_block nonce (length a) n) in
      after_data-fits (data_first y) a (inv.block _ (start-lt nonce (length a) n hn ln), double-lt (lower y)) ha

  pub text_block-fits : (opening : Bool) (k : ℕ) (t : StateX) (d : List ℕ) → Fits t → Bytes d
      → Fits (text_block E opening k t d)
  unfolding text_block
  text_block-fits opening k t d p h = (
    feed-lt opening (E t.X) (doubles k t.Δ) d (inv.block t.X p.0) (doubles-lt k t.Δ p.1) h,
    doubles-lt k t.Δ p.1,
  )

  pub text_at-fits : (opening : Bool) (t : StateX) (s : List ℕ) (i : ℕ) → Fits t → Bytes s
      → Fits (text_at E opening s t i)
  text_at-fits opening t s i p h = walk-keeps (text_block E opening 1) Fits (text_block-fits opening 1) t s i p h

  after_text-fits : (opening : Bool) (t : StateX) (s : List ℕ) → Fits t → Bytes s → Fits (after_text E opening t s)
  unfolding after_text walk
  after_text-fits opening t s p h =
      cond_has Fits (empty s) p
      (text_block-fits opening (cond (full (last s)) 2 3) (text_at E opening s t (before s)) (last s)
      (text_at-fits opening t s (before s) p h) (last-bytes s h))

  pub tag-lt : (opening : Bool) (nonce a d : List ℕ) → Bytes nonce → length nonce ≡ 12 → Bytes a → Bytes d
      → tag E opening nonce a d < 2 ^ 128
  unfolding tag ended
  tag-lt opening nonce a d hn ln ha hd =
      inv.block _ (swapped-lt (after_text-fits opening (begun E nonce a (length d)) d
      (begun-fits nonce a (length d) hn ln ha) hd).0)
