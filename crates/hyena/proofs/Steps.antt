-- What the loops over data and text make, from what each of their steps ensures.
use mathlib.Core.Path.{◌≡◌, refl, sym, ap, ap₂, subst, ◌∙◌}
use mathlib.Core.Bool.{Bool, cond}
use mathlib.Core.List.{List, []}
use Prim.Native.Nat.{ℕ, ◌+◌, ◌-◌, ◌*◌, ◌/◌, ◌^◌, ◌≤◌, ◌<◌}
use native.Mathlib.Omega.{arith}
use lib.Bits.{bit_xor}
use lib.Dec.{eqb}
use lib.ListN.{length, take, drop}
use lib.Seq.{sets, take_all}
use borrow.Author.Tests.{eq-eqb, ne_eqb}
use Rattle.words.specs.declared.Block.{Block}
use Rattle.words.specs.Block.{value, halves, part, loaded, stored}
use Rattle.words.specs.Bytes.{Bytes, bytes}
use Rattle.words.specs.Iterate.{iterate}
use Rattle.words.proofs.Blocks.{value-halves, value-is, loaded-back}
use Rattle.words.proofs.Bytes.{length-bytes}
use Rattle.words.proofs.Lists.{sets-append, drop-sets}
use Rattle.words.proofs.Iterate.{iterate-next}
use Rattle.mode.specs.Hyena as mode
use Rattle.mode.specs.Hyena.{before, block_at, last, full, walk, output, data_each, data_at, data_last, after_data}
use Rattle.mode.specs.Hyena.{text_block, text_at, after_text}
use Rattle.mode.proofs.Cuts.{last-length, last-part}
use Rattle.mode.proofs.Trip.{text-none, text-some, length_at}
use Rattle.hyena_blocks.specs.declared.StateY.{StateY}
use Rattle.hyena_blocks.specs.declared.StateX.{StateX}
use Rattle.hyena_blocks.specs.Steps.{low, held_y, held_x, read_y, read_x}
use Rattle.hyena_blocks.proofs.Steps.{low-xor, read_y-held, held-read_x}
use Rattle.std.specs.Prelude.{Option, Some, None}
use Rattle.std.specs.Option.{unwrap_or}
use Rattle.std.specs.Borrow.{Bor}
use Rattle.hyena.specs.Source.{source}

-- ---- associated data

module _ (E : ℕ → ℕ) (a : List ℕ) (h : Bytes a) where
  pub data-next : (f : mode.StateY) (i : ℕ) {s t : StateY} {d : Block} → i < before a → s ≡ held_y (data_at E a f i)
      → d ≡ halves (loaded a (16 * i) 16)
      → t ≡ held_y (data_each E (read_y s) (low 16 (value d))) → t ≡ held_y (data_at E a f (i + 1))
  data-next f i {s} {t} {d} l es ed et =
      et
      ∙ ap held_y
      (ap₂ (data_each E) (ap read_y es ∙ read_y-held (data_at E a f i))
      (ap (low 16) (value-is ed) ∙ loaded-back a (16 * i) 16 h (omega arith) (omega arith))
      ∙ iterate-next (λ j u. data_each E u (block_at a j)) i f refl refl)

  pub data-end : (f : mode.StateY) (k : ℕ) {s : StateY} {t : StateX} {d : Block} → (length a ≡ 0 → ⊥)
      → s ≡ held_y (data_at E a f (before a))
      → k ≡ cond (eqb (length a - 16 * before a) 16) 1 2
      → d ≡ halves (loaded a (16 * before a) (length a - 16 * before a))
      → t ≡ held_x (data_last k (read_y s) (low (length a - 16 * before a) (value d))) → t ≡ held_x (after_data E f a)
  unfolding after_data walk
  data-end f k {s} {t} {d} some es ek ed et =
      let n = length a - 16 * before a in
      let ends : low n (value d) ≡ last a = ap (low n) (value-is ed)
      ∙ loaded-back a (16 * before a) n h (omega arith) (omega arith) ∙ last-part a in
      et ∙ ap held_x (rw (
        ne_eqb (length a) 0 some,
        ek,
        es,
        read_y-held (data_at E a f (before a)),
        ends,
        last-length a,
      ))

pub data-none : (E : ℕ → ℕ) (f : mode.StateY) (a : List ℕ) {t : StateX} → length a ≡ 0
    → t ≡ held_x (data_last 2 f (low 16 (value (record { lo = 1; hi = 0 })))) → t ≡ held_x (after_data E f a)
unfolding after_data value
data-none E f a none et =
    et ∙ ap held_x (ap (data_last 2 f) (take_all 16 (bytes 16 1) (omega (arith, length-bytes 16 1)))
    ∙ rw (eq-eqb (length a) 0 none))

-- ---- text

-- what the code holds of a state, and the room it writes to
abbrev pub Held : mode.StateX → List ℕ → StateX → List ℕ → Type 0
Held t room₀ u room = (u ≡ held_x t) × (room ≡ sets room₀ 0 t.out)

module _ (E : ℕ → ℕ) (opening : Bool) (s : List ℕ) (h : Bytes s) where
  -- a block of it, in the code's steps
  pub part-is : (t : StateX) (k at n : ℕ) (room : List ℕ) {u : StateX} {d o : Block} {room' : List ℕ} → n ≤ 16
      → at + n ≤ length s → d ≡ halves (loaded s at n)
      → u ≡ held_x (text_block E opening k (read_x t) (low n (value d))) → o
      ≡ halves (bit_xor (value d) (E (value t.x)))
      → room' ≡ stored room at n (value o)
      → (u ≡ held_x (text_block E opening k (read_x t) (part s at n)))
      × (room' ≡ sets room at (output (part s at n) (E (value t.x))))
  unfolding stored
  part-is t k at n room {u} {d} {o} n16 there ed eu eo er =
      let p : low n (value d) ≡ part s at n = ap (low n) (value-is ed) ∙ loaded-back s at n h n16 (omega arith) in (
        eu ∙ ap (λ l. held_x (text_block E opening k (read_x t) l)) p,
        er ∙ ap (sets room at) (ap (low n) (value-is eo) ∙ low-xor n (value d) (E (value t.x))
            ∙ ap (λ l. output l (E (value t.x))) p),
      )

-- what the code takes for the text that is worked on
pub taken : (text : Option (Bor (List ℕ))) (room : Bor (List ℕ)) {r : Bor (List ℕ)} → r ≡ unwrap_or text room
    → r.now ≡ source text room.now
taken None room e = ap (λ (b : Bor (List ℕ)). b.now) e
taken (Some text) room e = ap (λ (b : Bor (List ℕ)). b.now) e

-- in place, what comes behind the output is as it was
behind-output : (text : Option (Bor (List ℕ))) (room₀ out : List ℕ) (at n : ℕ) {room : List ℕ} → room ≡ sets room₀ 0 out
    → length out ≤ at → part (source text room) at n ≡ part (source text room₀) at n
behind-output None room₀ out at n e h = ap (take n) (ap (drop at) e ∙ drop-sets room₀ 0 out at (omega arith))
behind-output (Some text) room₀ out at n e h = refl

-- a block d that comes behind the output is held with it
block_held : (E : ℕ → ℕ) (opening : Bool) (room₀ : List ℕ) (t : mode.StateX) (k at : ℕ) (d : List ℕ) {u v : StateX}
    {room room' : List ℕ} → length t.out ≡ at → Held t room₀ u room
    → v ≡ held_x (text_block E opening k (read_x u) d) → room' ≡ sets room at (output d (E (value u.x)))
    → Held (text_block E opening k t d) room₀ v room'
unfolding text_block held_x
block_held E opening room₀ t k at d {u} {v} {room} lo held ev er =
    let o = output d (E t.X) in
    let ex : value u.x ≡ t.X = ap (λ (a : StateX). value a.x) held.0 ∙ value-halves t.X in
    let em : u.mask ≡ t.Δ = ap (λ (a : StateX). a.mask) held.0 in
    let there : at ≡ 0 + length t.out = omega arith in (
      ev ∙ rw (ex, em),
      er ∙ ap₂ (λ (r : List ℕ) (x : ℕ). sets r at (output d (E x))) held.1 ex
          ∙ ap (λ (i : ℕ). sets (sets room₀ 0 t.out) i o) there
          ∙ sets-append room₀ 0 t.out o,
    )

module _ (E : ℕ → ℕ) (opening : Bool) (text : Option (Bor (List ℕ))) (room₀ : List ℕ) (t : mode.StateX)
    (none : t.out ≡ []) where
  -- the text that is worked on, as it was at first
  abbrev s : List ℕ
  s = source text room₀

  -- the block that is read next, of n bytes from at on, lies behind the output, and so is the text's
  block-next : (n k : ℕ) {i at : ℕ} {u v : StateX} {room room' : List ℕ} → i ≤ before s → at ≡ 16 * i
      → Held (text_at E opening s t i) room₀ u room
      → v ≡ held_x (text_block E opening k (read_x u) (part (source text room) at n))
      → room' ≡ sets room at (output (part (source text room) at n) (E (value u.x)))
      → Held (text_block E opening k (text_at E opening s t i) (part s at n)) room₀ v room'
  block-next n k {i} {at} {u} {v} {room} h ea held ev er =
      let lo : length (text_at E opening s t i).out ≡ at = length_at E opening t none s i h ∙ sym ea in
      let d : part (source text room) at n ≡ part s at n =
      behind-output text room₀ (text_at E opening s t i).out at n held.1 (omega arith) in
      block_held E opening room₀ (text_at E opening s t i) k at (part s at n) lo held
      (ev ∙ ap (λ l. held_x (text_block E opening k (read_x u) l)) d)
      (er ∙ ap (λ l. sets room at (output l (E (value u.x)))) d)

  pub text-next : (i : ℕ) {u v : StateX} {room room' : List ℕ} → i < before s
      → Held (text_at E opening s t i) room₀ u room
      → v ≡ held_x (text_block E opening 1 (read_x u) (part (source text room) (16 * i) 16))
      → room' ≡ sets room (16 * i) (output (part (source text room) (16 * i) 16) (E (value u.x)))
      → Held (text_at E opening s t (i + 1)) room₀ v room'
  text-next i {u} {v} {room} {room'} l held ev er =
      subst (λ z. Held z room₀ v room') (iterate-next (λ j w. text_block E opening 1 w (block_at s j)) i t refl refl)
      (block-next 16 1 (omega arith) refl held ev er)

  -- the last block; len is the length as the code has it
  pub text-end : (len i : ℕ) {k : ℕ} {u v : StateX} {room room' : List ℕ} → len ≡ length s → (len ≡ 0 → ⊥)
      → i ≡ (len - 1) / 16 → Held (text_at E opening s t i) room₀ u room
      → k ≡ cond (eqb (len - 16 * ((len - 1) / 16)) 16) 2 3
      → v ≡ held_x (text_block E opening k (read_x u)
      (part (source text room) (16 * ((len - 1) / 16)) (len - 16 * ((len - 1) / 16))))
      → room' ≡ sets room (16 * ((len - 1) / 16)) (output
      (part (source text room) (16 * ((len - 1) / 16)) (len - 16 * ((len - 1) / 16))) (E (value u.x)))
      → Held (after_text E opening t s) room₀ v room'
  text-end len i {k} {u} {v} {room} {room'} es some ei held ek ev er =
      let n = len - 16 * ((len - 1) / 16) in
      let en : n ≡ length s - 16 * before s = ap (λ (m : ℕ). m - 16 * ((m - 1) / 16)) es in
      let eb : i ≡ before s = ei ∙ ap (λ (m : ℕ). (m - 1) / 16) es in
      let el : k ≡ cond (full (last s)) 2 3 =
      ek ∙ ap (λ (m : ℕ). cond (eqb m 16) 2 3) (en ∙ sym (last-length s)) in
      let ed : part s (16 * ((len - 1) / 16)) n ≡ last s =
      ap (λ (m : ℕ). part s (16 * ((m - 1) / 16)) (m - 16 * ((m - 1) / 16))) es ∙ last-part s in
      let by : ℕ → ℕ → List ℕ → mode.StateX = λ j k d. text_block E opening k (text_at E opening s t j) d in
      subst (λ z. Held z room₀ v room')
      (ap (λ (j : ℕ). by j k (part s (16 * ((len - 1) / 16)) n)) eb ∙ ap₂ (by (before s)) el ed
      ∙ sym (text-some E opening t s (λ z. some (es ∙ z))))
      (block-next n k (omega (arith, eb)) (ap (λ (j : ℕ). 16 * j) (sym ei)) held ev er)

module _ (E : ℕ → ℕ) (opening : Bool) (t : StateX) (s room : List ℕ) (h : t.x.lo < 2 ^ 64) where
  pub text-start : Held (text_at E opening s (read_x t) 0) room t room
  unfolding iterate
  text-start = (held-read_x t h, refl)

  pub text-empty : length s ≡ 0 → Held (after_text E opening (read_x t) s) room t room
  text-empty e = subst (λ z. Held z room t room) (sym (text-none E opening (read_x t) s e)) (held-read_x t h, refl)
