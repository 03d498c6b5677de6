-- A word of eight bytes, gathered from its highest byte down.
use mathlib.Core.Path.{◌≡◌, sym, ap, ◌∙◌}
use mathlib.Core.List.{List, []}
use Prim.Native.Nat.{ℕ, suc, ◌+◌, ◌-◌, ◌*◌, ◌^◌, ◌≤◌, ◌<◌}
use native.Mathlib.Nat.{lt_of_lt_of_le, pow-le-pow_right}
use native.Mathlib.Omega.{arith}
use lib.ListN.{length, get_or, drop, length-drop, drop_of_length-le}
use lib.Seq.{get_or-take, get_or-drop}
use Rattle.words.specs.Block.{part}
use Rattle.words.specs.Bytes.{Bytes, number, filled}
use Rattle.words.proofs.Lists.{length_part}
use Rattle.words.proofs.Bytes.{bytes_take, bytes_drop, bytes-filled, number_lt, number-first, length-filled}
use Rattle.words.proofs.Bytes.{filled_at, drop-filled}

-- the word's bytes from i on
abbrev pub rest : List ℕ → ℕ → ℕ → ℕ → ℕ → List ℕ
rest s at n t i = drop i (filled t 8 (part s at n))

module _ (s : List ℕ) (at n t : ℕ) (fits : n ≤ length s - at) (short : n ≤ 8) where
  there : length (part s at n) ≡ n
  there = length_part s at n fits

  pub rest-above : number (rest s at n t n) ≡ number (filled t (8 - n) [])
  rest-above =
      rw (
        drop-filled t n 8 (part s at n) (omega (arith, there)),
        drop_of_length-le (part s at n) {i = n}
            (omega (arith, there)),
      )

  rest-first : (j : ℕ) → j < n → number (rest s at n t (suc j)) * 256 + get_or s (at + j) 0 ≡ number (rest s at n t j)
  rest-first j h =
      let e : get_or (filled t 8 (part s at n)) j 0 ≡ get_or s (at + j) 0 =
      filled_at t 8 (part s at n) j (omega arith) (omega (arith, there)) ∙ get_or-take n (drop at s) j 0 h
      ∙ get_or-drop at s j 0 in
      sym (number-first (filled t 8 (part s at n)) j (omega (arith, length-filled t 8 (part s at n)))
      ∙ ap (λ (b : ℕ). number (rest s at n t (suc j)) * 256 + b) e)

  pub rest-next : (i : ℕ) → 0 < i → i ≤ n → number (rest s at n t i) * 256 + get_or s (at + (i - 1)) 0
      ≡ number (rest s at n t (i - 1))
  rest-next i p h =
      let e : i ≡ suc (i - 1) = omega arith in
      ap (λ (k : ℕ). number (rest s at n t k) * 256 + get_or s (at + (i - 1)) 0) e ∙ rest-first (i - 1) (omega arith)

  pub rest-fits : (i : ℕ) → t < 256 → Bytes s → number (rest s at n t i) < 2 ^ 64
  rest-fits i small h =
      let f = filled t 8 (part s at n) in
      let l : length (drop i f) ≤ 8 = simp (length-drop, length-filled) (omega arith) in
      lt_of_lt_of_le (number_lt (drop i f) (bytes_drop i f
      (bytes-filled t 8 (part s at n) small (bytes_take n (drop at s) (bytes_drop at s h)))))
      (pow-le-pow_right {n = 256} (omega arith) {i = length (drop i f)} {j = 8} l)
