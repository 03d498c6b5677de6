-- A text cut into blocks, and walks over them.
use mathlib.Core.Path.{◌≡◌, refl, sym, ap, ap₂, ◌∙◌}
use mathlib.Core.List.{List, ◌++◌}
use Prim.Native.Nat.{ℕ, zero, suc, ◌-◌, ◌*◌, ◌≤◌, ◌<◌}
use native.Mathlib.Nat.{le_refl, le_step, mul-suc}
use native.Mathlib.Omega.{arith}
use lib.ListN.{length, take, drop, length-drop, length-append, take-append-drop}
use lib.Seq.{take_all, take-add, drop_at}
use Rattle.words.specs.Block.{part}
use Rattle.words.specs.Bytes.{Bytes}
use Rattle.words.proofs.Bytes.{bytes_take, bytes_drop}
use Rattle.words.proofs.Lists.{length_part}
use Rattle.words.proofs.Iterate.{iterate-same, iterate-keep}
use Rattle.mode.specs.Hyena.{before, block_at, last, walked, walk}

pub block-length : (s : List ℕ) (i : ℕ) → i < before s → length (block_at s i) ≡ 16
block-length s i h = length_part s (16 * i) 16 (omega arith)

pub last-length : (s : List ℕ) → length (last s) ≡ length s - 16 * before s
last-length s = length-drop (16 * before s) s

pub last-le : (s : List ℕ) → length (last s) ≤ 16
last-le s = omega (arith, last-length s)

-- the last block as a part
pub last-part : (s : List ℕ) → part s (16 * before s) (length s - 16 * before s) ≡ last s
last-part s = take_all (length s - 16 * before s) (last s) (omega (arith, last-length s))

pub block-bytes : (s : List ℕ) (i : ℕ) → Bytes s → Bytes (block_at s i)
block-bytes s i h = bytes_take 16 (drop (16 * i) s) (bytes_drop (16 * i) s h)

pub last-bytes : (s : List ℕ) → Bytes s → Bytes (last s)
last-bytes s h = bytes_drop (16 * before s) s h

-- equal block by block, equal as far as they go
fronts : (c d : List ℕ) (n : ℕ) → ((i : ℕ) → i < n → block_at c i ≡ block_at d i) → take (16 * n) c ≡ take (16 * n) d
fronts c d zero h = refl
fronts c d (suc n) h =
    cut c ∙ ap₂ ◌++◌ (fronts c d n (λ i l. h i (le_step l))) (h n (le_refl (suc n))) ∙ sym (cut d)
  where
    cut : (s : List ℕ) → take (16 * suc n) s ≡ take (16 * n) s ++ block_at s n
    cut s = ap (λ (k : ℕ). take k s) (mul-suc 16 n) ∙ take-add (16 * n) 16 s

-- a list is known by its blocks
pub joined-again : (c d : List ℕ) → before c ≡ before d → ((i : ℕ) → i < before c → block_at c i ≡ block_at d i)
    → last c ≡ last d → c ≡ d
joined-again c d n h e =
    sym (take-append-drop (16 * before c) c)
    ∙ ap₂ ◌++◌ (fronts c d (before c) h ∙ ap (λ (k : ℕ). take (16 * k) d) n) e
    ∙ take-append-drop (16 * before d) d

-- whole blocks and one of 1 to 16 bytes: how they are cut
module _ (p q : List ℕ) (n : ℕ) (hp : length p ≡ 16 * n) (low : 0 < length q) (high : length q ≤ 16) where
  pub before-append : before (p ++ q) ≡ n
  before-append = omega (arith, length-append p q)

  pub last-append : last (p ++ q) ≡ q
  last-append = drop_at p q (16 * before (p ++ q)) (hp ∙ ap (λ (k : ℕ). 16 * k) (sym before-append))

-- ---- walks

module _ {A B : Type 0} (each : A → List ℕ → A) (final : A → List ℕ → B) where
  -- where the blocks before the last are the same, a walk comes to the same state there
  pub walk-alike : (t : A) (c d : List ℕ) → before c ≡ before d → ((i : ℕ) → i < before c → block_at c i ≡ block_at d i)
      → walk each final t d ≡ final (walked each c t (before c)) (last d)
  unfolding walk
  walk-alike t c d n h =
      ap (λ (u : A). final u (last d))
      (ap (walked each d t) (sym n)
      ∙ sym (iterate-same (λ i u. each u (block_at c i)) (λ i u. each u (block_at d i)) (before c) t
      (λ i u l. ap (each u) (h i l))))

-- what each step keeps on blocks of bytes, n of them keep
pub walk-keeps : {A : Type 0} (each : A → List ℕ → A) (P : A → Type 0)
    → ((t : A) (d : List ℕ) → P t → Bytes d → P (each t d))
    → (t : A) (s : List ℕ) (n : ℕ) → P t → Bytes s → P (walked each s t n)
walk-keeps each P keep t s n h hs =
    iterate-keep P (λ i u. each u (block_at s i)) (λ i u p. keep u (block_at s i) p (block-bytes s i hs)) n t h
