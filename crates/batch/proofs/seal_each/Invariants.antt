use mathlib.Core.Path.{◌≡◌}
use Prim.Native.Nat.{◌+◌, ◌≤◌}
use mathlib.Core.Bool.{false}
use lib.ListN.{length, drop}
use Rattle.lengths.specs.Lengths.{total, any_above}
use Rattle.drawer.specs.Drawer.{remaining}
use Rattle.batch.specs.Batch.{singly}
use Rattle.batch.specs.Steps.{from_card}
use Rattle.batch.proofs.seal_each.Given as goal

abbrev pub invariant-loop-i : goal.invariant-loop-i
invariant-loop-i l =
    (l.at + total (drop l.i l.lengths) ≡ length l.texts)
    × (from_card l.key l.data l.texts l.lengths l.i l.at (record { room = l.room; tags = l.tags; next = l.next })
    ≡ singly l.key l.data l.texts l.lengths l.initial.next l.initial.room l.initial.tags)
    × (length l.lengths ≤ l.i + remaining l.next) × (any_above 1048576 (drop l.i l.lengths) ≡ false)
