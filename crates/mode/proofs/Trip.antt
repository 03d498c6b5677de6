-- The output is as long as the text, and either way undoes the other and has its tag: over every block function.
use mathlib.Core.Path.{◌≡◌, refl, sym, ap, ap₂, ◌∙◌}
use mathlib.Core.Bool.{Bool, true, false, cond, not}
use mathlib.Core.List.{List, [], ◌++◌, append_assoc}
use Prim.Native.Nat.{ℕ, zero, suc, ◌+◌, ◌*◌, ◌≤◌, ◌<◌}
use native.Mathlib.Nat.{mul-suc}
use native.Mathlib.Decide.{ℕ_discrete}
use native.Mathlib.Omega.{arith}
use borrow.Author.Tests.{eq-eqb, ne_eqb}
use lib.Dec.{eqb}
use lib.ListN.{length, take, length-append, take-append-drop}
use lib.Seq.{take_all, take_at, drop_at, take-add}
use Rattle.words.specs.Bytes.{bytes}
use Rattle.words.specs.Iterate.{iterate}
use Rattle.words.proofs.Plus.{length-plus, plus-twice}
use Rattle.words.proofs.Tests.{cond_has}
use Rattle.mode.specs.Hyena.{StateY, StateX, before, block_at, last, full, empty, walk, output, feed, start_block}
use Rattle.mode.specs.Hyena.{data_first, data_last, after_data, text_block, text_at, after_text, begun, ended, outputs}
use Rattle.mode.specs.Hyena.{tag, swapped}
use Rattle.mode.proofs.Cuts.{block-length, last-length, before-append, last-append}

pub length-output : (d : List ℕ) (y : ℕ) → length (output d y) ≡ length d
unfolding output
length-output d y = length-plus d (bytes 16 y)

-- ---- the text, block by block

module _ (E : ℕ → ℕ) (opening : Bool) where
  pub block_out : (k : ℕ) (t : StateX) (d : List ℕ) → (text_block E opening k t d).out ≡ t.out ++ output d (E t.X)
  unfolding text_block
  block_out k t d = refl

  length-out : (k : ℕ) (t : StateX) (d : List ℕ) → length (text_block E opening k t d).out ≡ length t.out + length d
  length-out k t d =
      ap length (block_out k t d) ∙ length-append t.out (output d (E t.X))
      ∙ ap (λ (n : ℕ). length t.out + n) (length-output d (E t.X))

  pub text-none : (t : StateX) (s : List ℕ) → length s ≡ 0 → after_text E opening t s ≡ t
  unfolding after_text
  text-none t s e = rw (eq-eqb (length s) 0 e)

  pub text-some : (t : StateX) (s : List ℕ) → (length s ≡ 0 → ⊥)
      → after_text E opening t s ≡ text_block E opening (cond (full (last s)) 2 3) (text_at E opening s t (before s))
      (last s)
  unfolding after_text walk
  text-some t s h = rw (ne_eqb (length s) 0 h)

  module _ (t : StateX) (none : t.out ≡ []) (s : List ℕ) where
    pub length_at : (i : ℕ) → i ≤ before s → length (text_at E opening s t i).out ≡ 16 * i
    unfolding iterate
    length_at zero h = ap length none
    length_at (suc i) h =
        omega (
          arith,
          length-out 1 (text_at E opening s t i) (block_at s i),
          length_at i (omega arith),
          block-length s i
              h,
        )

    pub length-text : length (after_text E opening t s).out ≡ length s
    length-text =
        elim (ℕ_discrete (length s) 0) [
          | yes n ↦ ap (λ (u : StateX). length u.out) (text-none t s n) ∙ ap length none ∙ sym n
          | no n ↦
              let k : ℕ = cond (full (last s)) 2 3 in
              ap (λ (u : StateX). length u.out) (text-some t s n)
              ∙ omega (
                arith,
                length-out k (text_at E opening s t (before s)) (last s),
                length_at (before s)
                    (omega arith),
                last-length s,
              )
        ]

-- ---- either way undoes the other

module _ (E : ℕ → ℕ) (opening : Bool) where
  -- a block that went one way goes the other way, from the same state: the block comes back, and the next state is the
  -- same
  block-trip : (k : ℕ) (t : StateX) (o d : List ℕ)
      → text_block E (not opening) k (record { X = t.X; Δ = t.Δ; out = o }) (output d (E t.X))
      ≡ record { X = (text_block E opening k t d).X; Δ = (text_block E opening k t d).Δ; out = o ++ d }
  unfolding text_block feed output
  block-trip k t o d =
      elim opening as (λ (w : Bool). text_block E (not w) k (record { X = t.X; Δ = t.Δ; out = o }) (output d (E t.X))
      ≡ record { X = (text_block E w k t d).X; Δ = (text_block E w k t d).Δ; out = o ++ d }) [
        | true ↦ rw plus-twice
        | false ↦ rw plus-twice
      ]

  module _ (t : StateX) (none : t.out ≡ []) (m : List ℕ) where
    there_at : ℕ → StateX
    there_at i = text_at E opening m t i

    -- whatever follows what came out so far
    blocks-trip : (i : ℕ) (r : List ℕ) → i ≤ before m
        → text_at E (not opening) ((there_at i).out ++ r) t i
        ≡ record { X = (there_at i).X; Δ = (there_at i).Δ; out = take (16 * i) m }
    unfolding there_at iterate
    blocks-trip zero r h = ap (λ (o : List ℕ). record { X = t.X; Δ = t.Δ; out = o }) none
    blocks-trip (suc i) r h =
        let u = there_at i in
        let d = block_at m i in
        let c = output d (E u.X) in
        ap (λ (z : List ℕ). text_block E (not opening) 1 (text_at E (not opening) z t i) (block_at z i))
        (ap (λ (z : List ℕ). z ++ r) (block_out E opening 1 u d) ∙ append_assoc u.out c r)
        ∙ ap₂ (text_block E (not opening) 1) (blocks-trip i (c ++ r) (omega arith))
        (ap (take 16) (drop_at u.out (c ++ r) (16 * i) (length_at E opening t none m i (omega arith)))
        ∙ take_at c r 16 (length-output d (E u.X) ∙ block-length m i h))
        ∙ block-trip 1 u (take (16 * i) m) d
        ∙ ap (λ (z : List ℕ). record { X = (there_at (suc i)).X; Δ = (there_at (suc i)).Δ; out = z })
        (sym (take-add (16 * i) 16 m) ∙ ap (λ (n : ℕ). take n m) (sym (mul-suc 16 i)))

    -- the state, with what went in in place of what came out
    back : StateX → StateX
    back u = record { X = u.X; Δ = u.Δ; out = m }

    none-trip : length m ≡ 0 → after_text E (not opening) t (after_text E opening t m).out
        ≡ back (after_text E opening t m)
    unfolding back
    none-trip e =
        let q = text-none E opening t m e in
        ap (λ (u : StateX). after_text E (not opening) t u.out) q
        ∙ text-none E (not opening) t t.out (ap length none)
        ∙ ap₂ (λ (u : StateX) (o : List ℕ). record { X = u.X; Δ = u.Δ; out = o }) (sym q)
        (none ∙ take_all 0 m (omega arith))

    some-trip : (length m ≡ 0 → ⊥) → after_text E (not opening) t (after_text E opening t m).out
        ≡ back (after_text E opening t m)
    unfolding back there_at
    some-trip some =
        let n = before m in
        let l = last m in
        let u = there_at n in
        let c = output l (E u.X) in
        let k : ℕ = cond (full l) 2 3 in
        let q : after_text E opening t m ≡ text_block E opening k u l = text-some E opening t m some in
        let lu : length u.out ≡ 16 * n = length_at E opening t none m n (omega arith) in
        let lc : length c ≡ length l = length-output l (E u.X) in
        let lm = last-length m in
        let low : 0 < length c = omega arith in
        let high : length c ≤ 16 = omega arith in
        let nothing : length (u.out ++ c) ≡ 0 → ⊥ = λ e. omega (arith, length-append u.out c) in
        ap (λ (z : StateX). after_text E (not opening) t z.out) q
        ∙ ap (after_text E (not opening) t) (block_out E opening k u l)
        ∙ text-some E (not opening) t (u.out ++ c) nothing
        ∙ ap₂ (λ (i : ℕ) (z : List ℕ). text_block E (not opening) (cond (full z) 2 3)
        (text_at E (not opening) (u.out ++ c) t i) z)
        (before-append u.out c n lu low high) (last-append u.out c n lu low high)
        ∙ ap₂ (λ (b : Bool) (z : StateX). text_block E (not opening) (cond b 2 3) z c) (ap (λ (i : ℕ). eqb i 16) lc)
        (blocks-trip n c (omega arith))
        ∙ block-trip k u (take (16 * n) m) l
        ∙ ap₂ (λ (z : StateX) (o : List ℕ). record { X = z.X; Δ = z.Δ; out = o }) (sym q)
        (take-append-drop (16 * n) m)

    text-trip : after_text E (not opening) t (after_text E opening t m).out ≡ back (after_text E opening t m)
    text-trip = elim (ℕ_discrete (length m) 0) [ yes n ↦ none-trip n | no n ↦ some-trip n ]

-- ---- all of it

pub data-out : (E : ℕ → ℕ) (f : StateY) (a : List ℕ) → (after_data E f a).out ≡ []
unfolding after_data walk data_last
data-out E f a = cond_has (λ (t : StateX). t.out ≡ []) (empty a) refl refl

module _ (E : ℕ → ℕ) (opening : Bool) (nonce a : List ℕ) where
  begun-out : (n : ℕ) → (begun E nonce a n).out ≡ []
  begun-out n = data-out E (data_first (E (start_block nonce (length a) n))) a

  pub length-outputs : (d : List ℕ) → length (outputs E opening nonce a d) ≡ length d
  unfolding outputs ended
  length-outputs d = length-text E opening (begun E nonce a (length d)) (begun-out (length d)) d

  ended-trip : (m : List ℕ)
      → ended E (not opening) nonce a (outputs E opening nonce a m)
      ≡ record { X = (ended E opening nonce a m).X; Δ = (ended E opening nonce a m).Δ; out = m }
  unfolding ended outputs back
  ended-trip m =
      ap (λ (n : ℕ). after_text E (not opening) (begun E nonce a n) (outputs E opening nonce a m)) (length-outputs m)
      ∙ text-trip E opening (begun E nonce a (length m)) (begun-out (length m)) m

  -- what went one way comes back the other way, and the tag is the same: opening what was sealed gives the text,
  -- sealing what was opened the ciphertext
  pub round_trip : (m : List ℕ)
      → (outputs E (not opening) nonce a (outputs E opening nonce a m) ≡ m)
      × (tag E (not opening) nonce a (outputs E opening nonce a m) ≡ tag E opening nonce a m)
  unfolding outputs tag
  round_trip m = (ap (λ (t : StateX). t.out) (ended-trip m), ap (λ (t : StateX). E (swapped t.X)) (ended-trip m))
