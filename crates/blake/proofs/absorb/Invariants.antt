use Rattle.std.proofs.Common.{◌≡◌, ◌+◌, ◌-◌, ◌*◌, drop}
use Rattle.blake.specs.Blake.{absorbed}
use Rattle.blake.proofs.absorb.Given as goal

abbrev pub invariant-loop-i : goal.invariant-loop-i
invariant-loop-i l =
    absorbed (l.n - l.i) l.h (l.t + 128 * l.i) (drop (128 * l.i) l.s) ≡ absorbed l.n l.initial.h l.t l.s
