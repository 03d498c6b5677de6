-- Sixteen words as a square of four rows. A step takes four words and gives a Q, whose parts a, b, c and d are the four
-- that come in their places.
use Rattle.std.specs.Prelude.{◌≡◌, ℕ, List, [], ◌∷◌, get_or, set, slice_get, Some}

module _ {Q : Type 0} (a b c d : Q → ℕ) where
  -- a step on four places of a list
  unfoldable pub on_four : (ℕ → ℕ → ℕ → ℕ → Q) → ℕ → ℕ → ℕ → ℕ → List ℕ → List ℕ
  on_four f i j k l s =
      let q = f (get_or s i 0) (get_or s j 0) (get_or s k 0) (get_or s l 0) in
      set (set (set (set s i (a q)) j (b q)) k (c q)) l (d q)

  -- eight steps, f 0 to f 7: the four columns, then the four diagonals
  unfoldable pub square : (ℕ → ℕ → ℕ → ℕ → ℕ → Q) → List ℕ → List ℕ
  square f s₀ =
      let s₁ = on_four (f 0) 0 4 8 12 s₀ in
      let s₂ = on_four (f 1) 1 5 9 13 s₁ in
      let s₃ = on_four (f 2) 2 6 10 14 s₂ in
      let s₄ = on_four (f 3) 3 7 11 15 s₃ in
      let s₅ = on_four (f 4) 0 5 10 15 s₄ in
      let s₆ = on_four (f 5) 1 6 11 12 s₅ in
      let s₇ = on_four (f 6) 2 7 8 13 s₆ in
      on_four (f 7) 3 4 9 14 s₇

-- The same of any kind of word, as a relation: the n-th step gives f n a b c d of a, b, c and d.
module _ {W : Type 0} (f : ℕ → W → W → W → W → W × W × W × W) where
  -- the n-th step gives q of what stands at four places of v
  abbrev pub Stepped : List W → ℕ → ℕ → ℕ → ℕ → ℕ → W × W × W × W → Type 0
  Stepped v n i j k l q =
      (a b c d : W) × (slice_get v i ≡ Some a) × (slice_get v j ≡ Some b) × (slice_get v k ≡ Some c)
      × (slice_get v l ≡ Some d) × (q ≡ f n a b c d)

  -- eight steps make w of v: p₀ to p₃ are what the columns' steps give, q₀ to q₃ what the diagonals' steps give
  unfoldable pub Squared : List W → List W → Type 0
  Squared v w =
      (p₀ p₁ p₂ p₃ q₀ q₁ q₂ q₃ : W × W × W × W) × Stepped v 0 0 4 8 12 p₀ × Stepped v 1 1 5 9 13 p₁
      × Stepped v 2 2 6 10 14 p₂ × Stepped v 3 3 7 11 15 p₃
      × (q₀ ≡ f 4 p₀.0 p₁.1 p₂.2 p₃.3) × (q₁ ≡ f 5 p₁.0 p₂.1 p₃.2 p₀.3)
      × (q₂ ≡ f 6 p₂.0 p₃.1 p₀.2 p₁.3) × (q₃ ≡ f 7 p₃.0 p₀.1 p₁.2 p₂.3)
      × (w ≡ q₀.0 ∷ q₁.0 ∷ q₂.0 ∷ q₃.0 ∷ q₃.1 ∷ q₀.1 ∷ q₁.1 ∷ q₂.1 ∷ q₂.2 ∷ q₃.2 ∷ q₀.2 ∷ q₁.2 ∷ q₁.3 ∷ q₂.3 ∷ q₃.3
      ∷ q₀.3 ∷ [])
