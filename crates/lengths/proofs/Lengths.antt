-- A list of lengths: what is left of it as its texts are gone over, its limit, and the texts that it cuts.
use mathlib.Core.Path.{◌≡◌, refl, sym, ap, subst⁻¹, ◌∙◌}
use mathlib.Core.Bool.{Bool, true, false, ◌||◌, true≢false}
use mathlib.Core.List.{List, [], ◌∷◌}
use Prim.Native.Nat.{ℕ, zero, suc, ◌+◌, ◌≤◌, ◌<◌}
use native.Mathlib.Numerals.{add-one}
use native.Mathlib.Omega.{arith}
use borrow.Author.Tests.{ltb-false}
use lib.Dec.{ltb}
use Rattle.std.specs.List.{list_any}
use lib.ListN.{length, get_or, take, drop, length-drop}
use lib.Seq.{drop-cons, drop-drop, length-take-le}
use Rattle.lengths.specs.Lengths.{total, any_above, text_at}

-- whether any is above a limit, in the library's word
pub any_above-is : (most : ℕ) (ns : List ℕ) → list_any (λ n. ltb most n) ns ≡ any_above most ns
unfolding any_above
any_above-is most [] = refl
any_above-is most (n ∷ ns) = rw (any_above-is most ns)

-- where none is above, the first is not, nor is any behind it
pub none_of : (most n : ℕ) (ns : List ℕ) → any_above most (n ∷ ns) ≡ false → (n ≤ most) × (any_above most ns ≡ false)
unfolding any_above
none_of most n ns e = by (ltb most n) refl e
  where
    by : (t : Bool) → ltb most n ≡ t → (t || any_above most ns) ≡ false → (n ≤ most) × (any_above most ns ≡ false)
    by true et f = absurd (true≢false f)
    by false et f = (ltb-false most n et, f)

module _ (s : List ℕ) (i : ℕ) (h : i < length s) where
  total-next : total (drop i s) ≡ get_or s i 0 + total (drop (i + 1) s)
  unfolding total
  total-next = rw (drop-cons s i 0 h, add-one)

  -- the next text ends where those behind it start, and lies within the whole
  module _ (at : ℕ) {whole : ℕ} (inv : at + total (drop i s) ≡ whole) where
    pub next-starts : at + get_or s i 0 + total (drop (i + 1) s) ≡ whole
    next-starts = omega (arith, total-next)

    pub next_fits : at + get_or s i 0 ≤ whole
    next_fits = omega (arith, total-next)

  pub none-next : (most : ℕ) → any_above most (drop i s) ≡ false
      → (get_or s i 0 ≤ most) × (any_above most (drop (i + 1) s) ≡ false)
  none-next most e = rw (add-one i) (none_of most (get_or s i 0) (drop (suc i) s) (rw (drop-cons s i 0 h) at e))

-- ---- the texts of a list of lengths

-- those behind the first
pub text-behind : (n : ℕ) (ns s : List ℕ) (i : ℕ) → text_at (n ∷ ns) s (suc i) ≡ text_at ns (drop n s) i
unfolding total
text-behind n ns s i = ap (take (get_or ns i 0)) (sym (drop-drop (total (take i ns)) n s))

-- each that is listed is there as a whole
pub length-text : (ns s : List ℕ) (i : ℕ) → total ns ≤ length s → i < length ns
    → length (text_at ns s i) ≡ get_or ns i 0
unfolding total
length-text [] s i h l = absurd (omega arith)
length-text (n ∷ ns) s zero h l = length-take-le n s (omega arith)
length-text (n ∷ ns) s (suc i) h l =
    ap length (text-behind n ns s i)
    ∙ length-text ns (drop n s) i (subst⁻¹ (λ (k : ℕ). total ns ≤ k) (length-drop n s) (omega arith)) (omega arith)
