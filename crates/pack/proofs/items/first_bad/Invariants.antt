use Rattle.std.proofs.Common.{◌≡◌, ◌-◌, ◌≤◌, length}
use Rattle.words.specs.Search.{place_of}
use Rattle.pack.specs.Pack.{offends, first_from, first_bad}
use Rattle.pack.proofs.items.first_bad.Given as goal

abbrev pub invariant-loop-i : goal.invariant-loop-i
invariant-loop-i l = first_from (offends l.entries) l.i (length l.entries - l.i) ≡ first_bad l.entries

abbrev pub invariant-loop-j : goal.invariant-loop-j
invariant-loop-j l = l.j ≤ place_of l.entry l.entries
