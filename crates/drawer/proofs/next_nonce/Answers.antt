use native.Mathlib.Nat.{div-div-eq-div-mul}
use Rattle.words.specs.Bytes.{bytes}
use Rattle.drawer.specs.Drawer.{nonce}
use Rattle.drawer.proofs.next_nonce.Goals as goal

-- the library divides by a power of 256 what `bytes` divides by 256 again and again
pub returns : goal.returns
unfolding nonce bytes
returns c =
    rw (c.copy_from_slice.ensures.after, c.copy_from_slice-2.ensures.after)
    (rw (c.to_le_bytes.ensures, c.to_le_bytes-2.ensures) (simp div-div-eq-div-mul))
