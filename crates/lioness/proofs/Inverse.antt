-- LIONESS both ways: each undoes the other, over any stream that undoes itself and keeps lengths, and any hash at all.
use mathlib.Core.Path.{◌≡◌, refl, ◌∙◌}
use mathlib.Core.Bool.{Bool, true, false, cond}
use mathlib.Core.List.{List, ◌++◌}
use Prim.Native.Nat.{ℕ, ◌%◌, ◌≤◌}
use native.Mathlib.Omega.{arith}
use lib.Dec.{eqb}
use lib.ListN.{length, take, length-drop, length-append, take-append-drop}
use lib.Seq.{take_at, drop_at, length-take-le}
use Rattle.words.specs.Bytes.{plus}
use Rattle.words.proofs.Plus.{length-plus, plus-twice}
use Rattle.words.proofs.Tests.{cond_has}
use Rattle.lioness.specs.Lioness.{piece, left, right, stream_step, digest_step, step, steps}

module _ (S : List ℕ → List ℕ → List ℕ → List ℕ) (H : List ℕ → List ℕ → List ℕ)
    (undoes : (k n t : List ℕ) → S k n (S k n t) ≡ t) (keeps : (k n t : List ℕ) → length (S k n t) ≡ length t)
    (key iv : List ℕ) where
  -- two parts as long as those of a block
  parts : (b l r : List ℕ) → 32 ≤ length b → length l ≡ length (left b) → length r ≡ length (right b)
      → length (l ++ r) ≡ length b
  parts b l r h el er = rw (length-append, el, er, length-take-le 32 b h, length-drop) (omega arith)

  length-step : (j : ℕ) (b : List ℕ) → 32 ≤ length b → length (step S H key iv j b) ≡ length b
  unfolding step stream_step digest_step
  length-step j b h =
      cond_has (λ (x : List ℕ). length x ≡ length b) (eqb (j % 2) 1)
      (parts b (left b) (S (plus (left b) (piece 32 j key)) (piece 12 j iv) (right b)) h refl (keeps _ _ (right b)))
      (parts b (plus (left b) _) (right b) h (length-plus (left b) _) refl)

  -- a step undoes itself
  stream-twice : (j : ℕ) (b : List ℕ) → 32 ≤ length b → stream_step S key iv j (stream_step S key iv j b) ≡ b
  unfolding stream_step
  stream-twice j b h =
      let l = left b in
      let r = S (plus l (piece 32 j key)) (piece 12 j iv) (right b) in
      let el : length l ≡ 32 = length-take-le 32 b h in
      rw (take_at l r 32 el, drop_at l r 32 el, undoes) (take-append-drop 32 b)

  digest-twice : (j : ℕ) (b : List ℕ) → 32 ≤ length b → digest_step H key iv j (digest_step H key iv j b) ≡ b
  unfolding digest_step
  digest-twice j b h =
      let r = right b in
      let d = take 32 (H (piece 32 j key ++ piece 12 j iv) r) in
      let l = plus (left b) d in
      let el : length l ≡ 32 = length-plus (left b) d ∙ length-take-le 32 b h in
      rw (take_at l r 32 el, drop_at l r 32 el, plus-twice) (take-append-drop 32 b)

  step_twice : (j : ℕ) (b : List ℕ) → 32 ≤ length b → step S H key iv j (step S H key iv j b) ≡ b
  unfolding step
  step_twice j b h = by (eqb (j % 2) 1)
    where
      by : (t : Bool) → cond t (stream_step S key iv j (cond t (stream_step S key iv j b) (digest_step H key iv j b)))
          (digest_step H key iv j (cond t (stream_step S key iv j b) (digest_step H key iv j b))) ≡ b
      by true = stream-twice j b h
      by false = digest-twice j b h

  module _ (p q r s : ℕ) (b : List ℕ) (h : 32 ≤ length b) where
    -- after one step, two, three
    after₁ : 32 ≤ length (step S H key iv p b)
    after₁ = omega (arith, length-step p b h)

    after₂ : 32 ≤ length (step S H key iv q (step S H key iv p b))
    after₂ = omega (arith, length-step q (step S H key iv p b) after₁, after₁)

    after₃ : 32 ≤ length (step S H key iv r (step S H key iv q (step S H key iv p b)))
    after₃ = omega (arith, length-step r (step S H key iv q (step S H key iv p b)) after₂, after₂)

    pub length-steps : length (steps S H key iv p q r s b) ≡ length b
    unfolding steps
    length-steps = length-step s _ after₃ ∙ length-step r _ after₂ ∙ length-step q _ after₁ ∙ length-step p b h

    -- four steps are undone by the same four from the last
    pub steps-undone : steps S H key iv s r q p (steps S H key iv p q r s b) ≡ b
    unfolding steps
    steps-undone = rw (step_twice s _ after₃, step_twice r _ after₂, step_twice q _ after₁, step_twice p b h)
