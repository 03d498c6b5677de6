-- The worked examples of document 01 compute: "a single table under a single statement".
use mathlib.Core.Path.{◌≡◌, refl}
use mathlib.Core.List.{map}
use Rattle.words.specs.Bytes.{filled}
use Rattle.words.specs.Iterate.{iterate}
use Rattle.gift.specs.Gift.{sbox, place}
use Rattle.mode.specs.Hyena.{double}
use Rattle.blake.specs.Blake.{parameter}
use Rattle.worked_examples.specs.WorkedExamples.{table}

pub compute : map (λ e. e.given) table ≡ map (λ e. e.said) table
unfolding table sbox place iterate double filled parameter
compute = refl
