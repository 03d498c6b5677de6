use Rattle.std.proofs.Common.{◌≡◌, ◌<◌, ◌^◌, Some}
use lib.ListN.{drop}
use Rattle.decimal.specs.Decimal.{from, reading}
use Rattle.decimal.proofs.number.Given as goal

abbrev pub invariant-loop-b : goal.invariant-loop-b
invariant-loop-b l = (l.value < 2 ^ 64) × (from (Some l.value) (drop l.b-index l.word) ≡ reading l.word)
