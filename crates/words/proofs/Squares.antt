-- Eight steps on sixteen words, of what the steps give.
use mathlib.Core.Path.{◌≡◌, sym, ap, ◌∙◌}
use mathlib.Core.List.{List, [], ◌∷◌}
use Prim.Native.Nat.{ℕ, ◌<◌}
use native.Mathlib.Omega.{arith}
use Rattle.std.specs.Prelude.{slice_get, Some}
use Rattle.std.proofs.lemmas.Option.{get_or_from_slice_get}
use lib.ListN.{length, get_or}
use Rattle.words.specs.Digits.{tab}
use Rattle.words.specs.Square.{on_four, square, Stepped, Squared}
use Rattle.words.proofs.Lists.{listed}

module _ {Q : Type 0} (a b c d : Q → ℕ) (f : ℕ → ℕ → ℕ → ℕ → ℕ → Q) where
  -- the words, row by row, of the four diagonals' steps
  abbrev rows : Q → Q → Q → Q → List ℕ
  rows q0 q1 q2 q3 =
      a q0 ∷ a q1 ∷ a q2 ∷ a q3 ∷ b q3 ∷ b q0 ∷ b q1 ∷ b q2 ∷ c q2 ∷ c q3 ∷ c q0 ∷ c q1 ∷ d q1 ∷ d q2 ∷ d q3 ∷ d q0 ∷ []

  -- of sixteen words g 0, g 1, ..
  of_words : (g : ℕ → ℕ) (p0 p1 p2 p3 q0 q1 q2 q3 : Q)
      → p0 ≡ f 0 (g 0) (g 4) (g 8) (g 12) → p1 ≡ f 1 (g 1) (g 5) (g 9) (g 13) → p2 ≡ f 2 (g 2) (g 6) (g 10) (g 14)
      → p3 ≡ f 3 (g 3) (g 7) (g 11) (g 15)
      → q0 ≡ f 4 (a p0) (b p1) (c p2) (d p3) → q1 ≡ f 5 (a p1) (b p2) (c p3) (d p0)
      → q2 ≡ f 6 (a p2) (b p3) (c p0) (d p1) → q3 ≡ f 7 (a p3) (b p0) (c p1) (d p2)
      → rows q0 q1 q2 q3 ≡ square a b c d f (tab g 0 16)
  unfolding tab on_four square
  of_words g p0 p1 p2 p3 q0 q1 q2 q3 e0 e1 e2 e3 f0 f1 f2 f3 = rw (f0, f1, f2, f3, e0, e1, e2, e3)

  pub square-is : (s : List ℕ) → length s ≡ 16 → (p0 p1 p2 p3 q0 q1 q2 q3 : Q)
      → p0 ≡ f 0 (get_or s 0 0) (get_or s 4 0) (get_or s 8 0) (get_or s 12 0)
      → p1 ≡ f 1 (get_or s 1 0) (get_or s 5 0) (get_or s 9 0) (get_or s 13 0)
      → p2 ≡ f 2 (get_or s 2 0) (get_or s 6 0) (get_or s 10 0) (get_or s 14 0)
      → p3 ≡ f 3 (get_or s 3 0) (get_or s 7 0) (get_or s 11 0) (get_or s 15 0)
      → q0 ≡ f 4 (a p0) (b p1) (c p2) (d p3) → q1 ≡ f 5 (a p1) (b p2) (c p3) (d p0)
      → q2 ≡ f 6 (a p2) (b p3) (c p0) (d p1) → q3 ≡ f 7 (a p3) (b p0) (c p1) (d p2)
      → rows q0 q1 q2 q3 ≡ square a b c d f s
  square-is s e p0 p1 p2 p3 q0 q1 q2 q3 e0 e1 e2 e3 f0 f1 f2 f3 =
      of_words (λ j. get_or s j 0) p0 p1 p2 p3 q0 q1 q2 q3 e0 e1 e2 e3 f0 f1 f2 f3
      ∙ ap (square a b c d f) (sym (listed s 16 e))

-- Of steps that give, each, what f says.
module _ (f g : ℕ → ℕ → ℕ → ℕ → ℕ → ℕ × ℕ × ℕ × ℕ) (is : (n : ℕ) → n < 8 → g n ≡ f n) where
  -- one of them, on four places
  stepped-is : (v : List ℕ) (n i j k l : ℕ) (q : ℕ × ℕ × ℕ × ℕ) → n < 8 → Stepped g v n i j k l q
      → q ≡ f n (get_or v i 0) (get_or v j 0) (get_or v k 0) (get_or v l 0)
  stepped-is v n i j k l q h (a, b, c, d, ea, eb, ec, ed, r) =
      let e0 = get_or_from_slice_get v i a 0 ea in
      let e1 = get_or_from_slice_get v j b 0 eb in
      let e2 = get_or_from_slice_get v k c 0 ec in
      let e3 = get_or_from_slice_get v l d 0 ed in
      r ∙ ap (λ (u : ℕ → ℕ → ℕ → ℕ → ℕ × ℕ × ℕ × ℕ). u a b c d) (is n h) ∙ rw (e0, e1, e2, e3)

  then : (n a b c d : ℕ) (q : ℕ × ℕ × ℕ × ℕ) → n < 8 → q ≡ g n a b c d → q ≡ f n a b c d
  then n a b c d q h r = r ∙ ap (λ (u : ℕ → ℕ → ℕ → ℕ → ℕ × ℕ × ℕ × ℕ). u a b c d) (is n h)

  pub squared-is : (v w : List ℕ) → length v ≡ 16 → Squared g v w
      → w ≡ square (λ q. q.0) (λ q. q.1) (λ q. q.2) (λ q. q.3) f v
  unfolding Squared
  squared-is v w long (p0, p1, p2, p3, q0, q1, q2, q3, s0, s1, s2, s3, r4, r5, r6, r7, e) =
      e ∙ square-is (λ q. q.0) (λ q. q.1) (λ q. q.2) (λ q. q.3) f v long p0 p1 p2 p3 q0 q1 q2 q3
      (stepped-is v 0 0 4 8 12 p0 (omega arith) s0) (stepped-is v 1 1 5 9 13 p1 (omega arith) s1)
      (stepped-is v 2 2 6 10 14 p2 (omega arith) s2) (stepped-is v 3 3 7 11 15 p3 (omega arith) s3)
      (then 4 _ _ _ _ q0 (omega arith) r4) (then 5 _ _ _ _ q1 (omega arith) r5)
      (then 6 _ _ _ _ q2 (omega arith) r6) (then 7 _ _ _ _ q3 (omega arith) r7)

-- Of steps on any kind of word: what they make of sixteen words is one.
module _ {W : Type 0} (f : ℕ → W → W → W → W → W × W × W × W) where
  same-word : (v : List W) (i : ℕ) (a b : W) → slice_get v i ≡ Some a → slice_get v i ≡ Some b → a ≡ b
  same-word v i a b p q = sym (get_or_from_slice_get v i a a p) ∙ get_or_from_slice_get v i b a q

  same-step : (v : List W) (n i j k l : ℕ) (p q : W × W × W × W) → Stepped f v n i j k l p → Stepped f v n i j k l q
      → p ≡ q
  same-step v n i j k l p q (a, b, c, d, ea, eb, ec, ed, r) (a', b', c', d', ea', eb', ec', ed', r') =
      let e0 = same-word v i a a' ea ea' in
      let e1 = same-word v j b b' eb eb' in
      let e2 = same-word v k c c' ec ec' in
      let e3 = same-word v l d d' ed ed' in
      rw (r, r', e0, e1, e2, e3)

  same-rows : (p0 p1 p2 p3 q0 q1 q2 q3 s0 s1 s2 s3 t0 t1 t2 t3 : W × W × W × W)
      → p0 ≡ s0 → p1 ≡ s1 → p2 ≡ s2 → p3 ≡ s3
      → q0 ≡ f 4 p0.0 p1.1 p2.2 p3.3 → q1 ≡ f 5 p1.0 p2.1 p3.2 p0.3
      → q2 ≡ f 6 p2.0 p3.1 p0.2 p1.3 → q3 ≡ f 7 p3.0 p0.1 p1.2 p2.3
      → t0 ≡ f 4 s0.0 s1.1 s2.2 s3.3 → t1 ≡ f 5 s1.0 s2.1 s3.2 s0.3
      → t2 ≡ f 6 s2.0 s3.1 s0.2 s1.3 → t3 ≡ f 7 s3.0 s0.1 s1.2 s2.3
      → (q0 ≡ t0) × (q1 ≡ t1) × (q2 ≡ t2) × (q3 ≡ t3)
  same-rows p0 p1 p2 p3 q0 q1 q2 q3 s0 s1 s2 s3 t0 t1 t2 t3 e0 e1 e2 e3 f0 f1 f2 f3 g0 g1 g2 g3 = (
    rw (f0, g0, e0, e1, e2, e3),
    rw (f1, g1, e0, e1, e2, e3),
    rw (f2, g2, e0, e1, e2, e3),
    rw (f3, g3, e0, e1, e2, e3),
  )

  four : (g : W × W × W × W → W × W × W × W → W × W × W × W → W × W × W × W → List W)
      (q0 q1 q2 q3 t0 t1 t2 t3 : W × W × W × W)
      → (q0 ≡ t0) × (q1 ≡ t1) × (q2 ≡ t2) × (q3 ≡ t3) → g q0 q1 q2 q3 ≡ g t0 t1 t2 t3
  four g q0 q1 q2 q3 t0 t1 t2 t3 (e0, e1, e2, e3) = rw (e0, e1, e2, e3)

  -- what eight steps give, row by row
  abbrev rows_of : W × W × W × W → W × W × W × W → W × W × W × W → W × W × W × W → List W
  rows_of q0 q1 q2 q3 =
      q0.0 ∷ q1.0 ∷ q2.0 ∷ q3.0 ∷ q3.1 ∷ q0.1 ∷ q1.1 ∷ q2.1 ∷ q2.2 ∷ q3.2 ∷ q0.2 ∷ q1.2 ∷ q1.3 ∷ q2.3 ∷ q3.3 ∷ q0.3 ∷ []

  pub squared-unique : (v : List W) {a b : List W} → Squared f v a → Squared f v b → a ≡ b
  unfolding Squared
  squared-unique v (p0, p1, p2, p3, q0, q1, q2, q3, x0, x1, x2, x3, f0, f1, f2, f3, e)
      (s0, s1, s2, s3, t0, t1, t2, t3, y0, y1, y2, y3, g0, g1, g2, g3, e') =
      let e0 = same-step v 0 0 4 8 12 p0 s0 x0 y0 in
      let e1 = same-step v 1 1 5 9 13 p1 s1 x1 y1 in
      let e2 = same-step v 2 2 6 10 14 p2 s2 x2 y2 in
      let e3 = same-step v 3 3 7 11 15 p3 s3 x3 y3 in
      let all = same-rows p0 p1 p2 p3 q0 q1 q2 q3 s0 s1 s2 s3 t0 t1 t2 t3 e0 e1 e2 e3 f0 f1 f2 f3 g0 g1 g2 g3 in
      e ∙ four rows_of q0 q1 q2 q3 t0 t1 t2 t3 all ∙ sym e'
