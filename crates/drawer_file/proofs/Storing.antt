-- The drawer file: what the code makes of it, that what is stored is read back, and that nothing else is taken.
use mathlib.Core.Path.{◌≡◌, refl, sym, ap, ap₂, ◌∙◌}
use mathlib.Core.Bool.{Bool, true, false}
use mathlib.Core.List.{List, []}
use Prim.Native.Nat.{ℕ, ◌-◌, ◌^◌, ◌<◌}
use native.Mathlib.Omega.{arith}
use lib.Dec.{lit≤}
use lib.ListN.{length}
use Rattle.words.specs.declared.Block.{Block}
use Rattle.words.specs.Block.{halves, loaded}
use Rattle.words.specs.Bytes.{Bytes, bytes}
use Rattle.answers.specs.Answers.{Answer, answered}
use Rattle.words.specs.Search.{same}
use Rattle.words.proofs.Bytes.{number-bytes}
use Rattle.words.proofs.Search.{same_refl, same-is}
use Rattle.words.proofs.WordLists.{word_lt, loaded_word}
use Rattle.blake.specs.Blake.{digest}
use Rattle.blake.specs.Entry.{digesting}
use Rattle.blake.proofs.Hashing.{digesting-done}
use Rattle.drawer.specs.declared.Drawer.{Drawer}
use Rattle.drawer.specs.Drawer.{started, nonce}
use Rattle.drawer.proofs.Steps.{length-nonce}
use Rattle.drawer_file.specs.DrawerFile.{storing, drawer_in, loading, Loading}

-- ---- what is written

-- the digest is there, whatever the room held
pub digested : (d : Drawer) (n : ℕ) (nonce' room room' : List ℕ) → nonce' ≡ nonce d → length room ≡ 32
    → answered n room' ≡ digesting [] nonce' room → (n ≡ 0) × (room' ≡ digest [] (nonce d) 32)
digested d n nonce' room room' en lr e =
    let ln : length nonce' ≡ 12 = ap length en ∙ length-nonce d in
    let q : answered n room' ≡ answered 0 (digest [] nonce' (length room)) =
    e ∙ digesting-done [] nonce' room (lit≤ tt) (omega arith) (λ z. absurd (omega (arith, z))) (omega arith) in (
      ap (λ (a : Answer (List ℕ)). a.number) q,
      ap (λ (a : Answer (List ℕ)). a.outcome) q ∙ ap₂ (digest []) en lr,
    )

-- ---- what is read

module _ (s : List ℕ) (h : Bytes s) where
  -- four bytes are a number of 32 bits
  pub reader-fits : (b : Block) → b ≡ halves (loaded s 0 4) → b.lo < 2 ^ 32
  reader-fits b e = omega (arith, loaded_word s h 0 4 e (lit≤ tt), word_lt s h 0 4)

  pub drawer-is : (b b' : Block) → b ≡ halves (loaded s 0 4) → b' ≡ halves (loaded s 4 8)
      → started b.lo b'.lo ≡ drawer_in s
  drawer-is b b' e e' =
      ap₂ started (loaded_word s h 0 4 e (lit≤ tt)) (loaded_word s h 4 8 e' (lit≤ tt))

module _ (s file : List ℕ) (d : Drawer) (ed : d ≡ drawer_in s) (ef : file ≡ storing d) where
  judged : same s file ≡ same s (storing (drawer_in s))
  judged = ap (same s) (ef ∙ ap storing ed)

  pub taken_is : same s file ≡ true → Loading 0 s d
  unfolding loading
  taken_is e = rw (sym judged ∙ e) (ap (answered 0) ed)

  pub refused-is : same s file ≡ false → Loading 106 s (started 0 (2 ^ 64 - 1))
  unfolding loading
  refused-is e = rw (sym judged ∙ e)

-- ---- there and back

in-stored : (d : Drawer) → d.reader < 2 ^ 32 → d.count < 2 ^ 64 → drawer_in (storing d) ≡ d
unfolding storing nonce bytes
in-stored d hr hc = ap₂ started (number-bytes 4 d.reader hr) (number-bytes 8 d.count hc)

pub loading-stored : (d : Drawer) → d.reader < 2 ^ 32 → d.count < 2 ^ 64 → loading (storing d) ≡ answered 0 d
unfolding loading
loading-stored d hr hc = rw (in-stored d hr hc, same_refl (storing d))

-- nothing else is taken
pub stored-loading : (s : List ℕ) → (loading s).number ≡ 0 → s ≡ storing (loading s).outcome
unfolding loading
stored-loading s = by (same s (storing (drawer_in s))) refl
  where
    by : (t : Bool) → same s (storing (drawer_in s)) ≡ t → (loading s).number ≡ 0 → s ≡ storing (loading s).outcome
    by true et e = rw et (same-is s (storing (drawer_in s)) et)
    by false et e = absurd (omega (arith, rw et at e))
