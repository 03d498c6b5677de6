-- Demand 3: ciphertexts that differ in the last block only have different tags, for every block function with an
-- inverse.
use mathlib.Core.Path.{◌≡◌, refl, sym, ap, ap₂, subst, ◌∙◌}
use mathlib.Core.Bool.{Bool, true, cond}
use mathlib.Core.List.{List, [], ◌∷◌}
use Prim.Native.Nat.{ℕ, zero, suc, ◌^◌, ◌≤◌, ◌<◌}
use native.Mathlib.Nat.{suc_inj}
use native.Mathlib.Omega.{arith}
use borrow.Author.Tests.{eqb-true, eq-eqb, ne_eqb}
use lib.Bits.{bit_xor, xor_lt, xor_comm}
use lib.Dec.{lit<}
use lib.ListN.{length, take, drop, replicate, length-take, length-drop}
use Rattle.words.specs.Bytes.{Bytes, number, bytes, filled, pad, plus}
use Rattle.words.proofs.Bytes.{bytes_take, bytes_drop, bytes-filled, length-filled, length-bytes, number-inj, number_lt}
use Rattle.words.proofs.Bytes.{number-split}
use Rattle.words.proofs.ExclusiveOr.{xor-cancel}
use Rattle.mode.specs.Demands.{Inverted, Alike}
use Rattle.mode.specs.Hyena.{StateX, upper, lower, joined, before, last, full, doubles, output, feedback, feed}
use Rattle.mode.specs.Hyena.{start_block, data_first, after_data, text_block, text_at, after_text, begun, ended, tag}
use Rattle.mode.specs.Hyena.{swapped}
use Rattle.mode.proofs.Bounds.{lower-lt, joined-inj, swapped-lt, swapped-inj, doubles-lt, output-bytes, Fits}
use Rattle.mode.proofs.Bounds.{begun-fits, text_block-fits, text_at-fits}
use Rattle.mode.proofs.Cuts.{last-le, last-bytes, joined-again, walk-alike}
use Rattle.mode.proofs.Trip.{text-some}

-- ---- a padded block, with k bytes of the cipher side and the rest of the text side, tells the block

-- zeros are no padded block that has room
zeros : (k n : ℕ) (b t : List ℕ) → n ≤ length t → length b ≤ n → (length b ≡ n → ⊥)
    → take k (replicate n 0) ≡ take k (filled 1 n b) → drop k (replicate n 0) ≡ drop k (filled 1 n (plus b t)) → ⊥
unfolding filled plus
zeros k zero [] t ht h g p q = g refl
zeros k zero (x ∷ b) t ht h g p q = omega arith
zeros zero (suc n) [] t ht h g p q = let z : ◌≡◌ {A = ℕ} 0 1 = cc in omega arith
zeros (suc k) (suc n) [] t ht h g p q = let z : ◌≡◌ {A = ℕ} 0 1 = cc in omega arith
zeros k (suc n) (x ∷ b) [] ht h g p q = omega arith
zeros zero (suc n) (x ∷ b) (c ∷ t) ht h g p q =
    zeros zero n b t (omega arith) (omega arith) (λ e. g (ap suc e)) refl (cc)
zeros (suc k) (suc n) (x ∷ b) (c ∷ t) ht h g p q = zeros k n b t (omega arith) (omega arith) (λ e. g (ap suc e)) (cc) q

-- nor is a shorter one a longer one
alone : (k n x c : ℕ) (b t : List ℕ) → n ≤ length t → length b ≤ n → (suc (length b) ≡ suc n → 0 ≡ suc n)
    → take k (1 ∷ replicate n 0) ≡ take k (x ∷ filled 1 n b)
    → drop k (1 ∷ replicate n 0) ≡ drop k (bit_xor x c ∷ filled 1 n (plus b t)) → ⊥
alone zero n x c b t ht h g p q = zeros zero n b t ht h (λ e. let z : 0 ≡ suc n = g (ap suc e) in omega arith) refl (cc)
alone (suc k) n x c b t ht h g p q = zeros k n b t ht h (λ e. let z : 0 ≡ suc n = g (ap suc e) in omega arith) (cc) q

sides-inj : (k n : ℕ) (a b t : List ℕ) → n ≤ length t → length a ≤ n → length b ≤ n → (length a ≡ n → length b ≡ n)
    → (length b ≡ n → length a ≡ n)
    → take k (filled 1 n a) ≡ take k (filled 1 n b) → drop k (filled 1 n (plus a t)) ≡ drop k (filled 1 n (plus b t))
    → a ≡ b
unfolding filled plus
sides-inj k n [] [] t ht ha hb f g p q = refl
sides-inj k zero [] (x ∷ b) t ht ha hb f g p q = absurd (omega arith)
sides-inj k zero (w ∷ a) b t ht ha hb f g p q = absurd (omega arith)
sides-inj k (suc n) [] (x ∷ b) [] ht ha hb f g p q = absurd (omega arith)
sides-inj k (suc n) (w ∷ a) b [] ht ha hb f g p q = absurd (omega arith)
sides-inj k (suc n) [] (x ∷ b) (c ∷ t) ht ha hb f g p q = absurd (alone k n x c b t (omega arith) (omega arith) g p q)
sides-inj k (suc n) (w ∷ a) [] (c ∷ t) ht ha hb f g p q =
    absurd (alone k n w c a t (omega arith) (omega arith) f (sym p) (sym q))
sides-inj zero (suc n) (w ∷ a) (x ∷ b) (c ∷ t) ht ha hb f g p q =
    ap₂ ◌∷◌ (xor-cancel c (cc))
    (sides-inj zero n a b t (omega arith) (omega arith) (omega arith) (λ e. suc_inj (f (ap suc e)))
    (λ e. suc_inj (g (ap suc e))) refl (cc))
sides-inj (suc k) (suc n) (w ∷ a) (x ∷ b) (c ∷ t) ht ha hb f g p q =
    ap₂ ◌∷◌ (cc) (sides-inj k n a b t (omega arith) (omega arith) (omega arith) (λ e. suc_inj (f (ap suc e)))
    (λ e. suc_inj (g (ap suc e))) (cc) q)

-- ---- the halves of Pad

module _ (s : List ℕ) (h : Bytes s) where
  padded : Bytes (pad s)
  padded = bytes-filled 1 16 s (lit< tt) h

  low_half : number (take 8 (pad s)) < 2 ^ 64
  low_half =
      let l : length (take 8 (pad s)) ≡ 8 = simp (length-take, length-filled) in
      subst (λ (n : ℕ). number (take 8 (pad s)) < 256 ^ n) l (number_lt (take 8 (pad s)) (bytes_take 8 (pad s) padded))

  pad-lower : lower (number (pad s)) ≡ number (take 8 (pad s))
  pad-lower = omega (arith, number-split 8 (pad s), low_half)

  pad-upper : upper (number (pad s)) ≡ number (drop 8 (pad s))
  pad-upper = omega (arith, number-split 8 (pad s), low_half)

module _ (c d : List ℕ) (hc : Bytes c) (hd : Bytes d) where
  lower-inj : lower (number (pad c)) ≡ lower (number (pad d)) → take 8 (pad c) ≡ take 8 (pad d)
  lower-inj e =
      number-inj (take 8 (pad c)) (take 8 (pad d)) (bytes_take 8 (pad c) (padded c hc))
      (bytes_take 8 (pad d) (padded d hd)) (simp (length-take, length-filled))
      (sym (pad-lower c hc) ∙ e ∙ pad-lower d hd)

  upper-inj : upper (number (pad c)) ≡ upper (number (pad d)) → drop 8 (pad c) ≡ drop 8 (pad d)
  upper-inj e =
      number-inj (drop 8 (pad c)) (drop 8 (pad d)) (bytes_drop 8 (pad c) (padded c hc))
      (bytes_drop 8 (pad d) (padded d hd)) (simp (length-drop, length-filled))
      (sym (pad-upper c hc) ∙ e ∙ pad-upper d hd)

full-length : (c d : List ℕ) → full c ≡ full d → length c ≡ 16 → length d ≡ 16
full-length c d e h = eqb-true (length d) 16 (sym e ∙ eq-eqb (length c) 16 h)

-- the state after a block of ciphertext tells the block
feed-inj : (y Δ : ℕ) (c d : List ℕ) → Δ < 2 ^ 64 → Bytes c → Bytes d → length c ≤ 16 → length d ≤ 16 → full c ≡ full d
    → feed true y Δ c ≡ feed true y Δ d → c ≡ d
unfolding feed feedback output
feed-inj y Δ c d hΔ hc hd lc ld ends e =
    let halves = joined-inj (below c) (below d) (xor-cancel y (xor_comm (side c) y ∙ e ∙ xor_comm y (side d))) in
    sides-inj 8 16 c d (bytes 16 y) (omega (arith, length-bytes 16 y)) lc ld (full-length c d ends)
    (full-length d c (sym ends))
    (lower-inj c d hc hd (xor-cancel Δ halves.1))
    (upper-inj (output c y) (output d y) (output-bytes c y hc) (output-bytes d y hd) halves.0)
  where
    side : List ℕ → ℕ
    side s = joined (upper (number (pad (output s y)))) (bit_xor (lower (number (pad s))) Δ)

    below : (s : List ℕ) → bit_xor (lower (number (pad s))) Δ < 2 ^ 64
    below s = xor_lt 64 (lower (number (pad s))) Δ (lower-lt (number (pad s))) hΔ

-- ---- equal tags come of equal ciphertexts

start-alike : (nonce : List ℕ) (a m n : ℕ) → (m ≡ 0 → ⊥) → (n ≡ 0 → ⊥) → start_block nonce a m ≡ start_block nonce a n
unfolding start_block
start-alike nonce a m n hm hn = rw (ne_eqb m 0 hm, ne_eqb n 0 hn)

module _ {E D : ℕ → ℕ} (inv : Inverted E D) where
  -- the tag tells the state
  tag-inj : {x y : ℕ} → x < 2 ^ 128 → y < 2 ^ 128 → E (swapped x) ≡ E (swapped y) → x ≡ y
  tag-inj {x} {y} hx hy e =
      swapped-inj hx hy (sym (inv.undone (swapped x) (swapped-lt hx)) ∙ ap D e
      ∙ inv.undone (swapped y) (swapped-lt hy))

  -- the last block, from one state
  block-inj : (k : ℕ) (t : StateX) (c d : List ℕ) → Fits t → Bytes c → Bytes d → length c ≤ 16 → length d ≤ 16
      → full c ≡ full d
      → E (swapped (text_block E true k t c).X) ≡ E (swapped (text_block E true k t d).X) → c ≡ d
  unfolding text_block
  block-inj k t c d p hc hd lc ld ends e =
      feed-inj (E t.X) (doubles k t.Δ) c d (doubles-lt k t.Δ p.1) hc hd lc ld ends
      (tag-inj (text_block-fits inv true k t c p hc).0 (text_block-fits inv true k t d p hd).0 e)

  text-alike : (t : StateX) (c d : List ℕ) → Alike c d
      → after_text E true t d ≡ text_block E true (cond (full (last c)) 2 3) (text_at E true c t (before c)) (last d)
  unfolding after_text
  text-alike t c d al =
      rw (ne_eqb (length d) 0 al.some-d)
      (walk-alike (text_block E true 1) (λ u s. text_block E true (cond (full s) 2 3) u s) t c d al.as_many al.equal
      ∙ ap (λ (b : Bool). text_block E true (cond b 2 3) (text_at E true c t (before c)) (last d)) (sym al.ends))

  text-inj : (t : StateX) (c d : List ℕ) → Fits t → Bytes c → Bytes d → Alike c d
      → E (swapped (after_text E true t c).X) ≡ E (swapped (after_text E true t d).X) → c ≡ d
  text-inj t c d p hc hd al e =
      joined-again c d al.as_many al.equal
      (block-inj (cond (full (last c)) 2 3) (text_at E true c t (before c)) (last c) (last d)
      (text_at-fits inv true t c (before c) p hc)
      (last-bytes c hc) (last-bytes d hd) (last-le c) (last-le d) al.ends
      (ap (λ (u : StateX). E (swapped u.X)) (sym (text-some E true t c al.some-c)) ∙ e
      ∙ ap (λ (u : StateX). E (swapped u.X)) (text-alike t c d al)))

  -- demand 3: the tag that opens a ciphertext tells it among those that are alike
  pub same_tag : (nonce a c d : List ℕ) → Bytes nonce → length nonce ≡ 12 → Bytes a → Bytes c → Bytes d → Alike c d
      → tag E true nonce a c ≡ tag E true nonce a d → c ≡ d
  unfolding tag ended
  same_tag nonce a c d hn ln ha hc hd al e =
      text-inj (begun E nonce a (length c)) c d (begun-fits inv nonce a (length c) hn ln ha) hc hd al
      (e ∙ ap (λ (x : ℕ). E (swapped (after_text E true (after_data E (data_first (E x)) a) d).X))
      (start-alike nonce (length a) (length d) (length c) al.some-d al.some-c))
