use mathlib.Core.Path.{◌≡◌}
use mathlib.Core.List.{[], append-nil}
use native.Mathlib.Omega.{arith}
use lib.ListN.{length-append, length-drop, length-take}
use Rattle.words.specs.Bytes.{bytes}
use Rattle.answers.specs.Told.{told}
use Rattle.answers.proofs.Answers.{done-is}
use Rattle.blake.specs.Blake.{digest}
use Rattle.drawer.specs.Drawer.{nonce}
use Rattle.drawer_file.specs.DrawerFile.{storing}
use Rattle.drawer_file.proofs.Storing.{digested}
use Rattle.drawer_file.proofs.store.Goals as goal
use Rattle.drawer_file.proofs.store.Goals.{After-digest}

-- behind the nonce there is room for the digest, and it is there
digest-is : (c : After-digest) → (told c.digest.result ≡ 0) × (c.digest.new.room ≡ digest [] (nonce c.args.d) 32)
digest-is c =
    digested c.args.d _ _ _ _ c.next_nonce-nonce.ensures
    (simp (length-take, length-drop, length-append) (omega (arith, c.copy_from_slice.ensures.len))) c.digest.ensures

pub unwrap-requires : goal.unwrap-requires
unwrap-requires c = done-is c.digest.result (digest-is (goal.at.unwrap-requires c).After-digest).0

pub returns : goal.returns
unfolding storing nonce bytes
returns c =
    rw (c.copy_from_slice.ensures.after, c.next_nonce-nonce.ensures, (digest-is (goal.at.returns c).After-digest).1)
    (rw append-nil)
