-- Each public function's promise allows one result.
use mathlib.Core.Path.{◌≡◌}
use mathlib.Core.Bool.{Bool}
use mathlib.Core.List.{List}
use Prim.Native.Nat.{ℕ}
use Rattle.words.specs.declared.Block.{Block}
use Rattle.words.specs.Block.{value}
use Rattle.words.proofs.Unique.{same}
use Rattle.hyena_blocks.specs.declared.keyed.Keyed.{Keyed}
use Rattle.hyena_blocks.specs.declared.StateY.{StateY}
use Rattle.hyena_blocks.specs.declared.StateX.{StateX}
use Rattle.hyena_blocks.specs.declared.Fed.{Fed}
use Rattle.hyena_blocks.specs.Steps.{keyed, started, data_fed, data_ended, text_fed, tagged}

pub keyed-of-unique : (key : Block) {r s : Keyed} → r ≡ keyed (value key) → s ≡ keyed (value key) → r ≡ s
keyed-of-unique key = same

pub start-unique : (e : Keyed) (nonce : List ℕ) (a d : ℕ) {r s : StateY} → r ≡ started e nonce a d
    → s ≡ started e nonce a d → r ≡ s
start-unique e nonce a d = same

pub data-block-unique : (e : Keyed) (b : StateY) (d : Block) {r s : StateY} → r ≡ data_fed e b d → s ≡ data_fed e b d
    → r ≡ s
data-block-unique e b d = same

pub data-last-unique : (b : StateY) (k : ℕ) (d : Block) (n : ℕ) {r s : StateX} → r ≡ data_ended b k d n
    → s ≡ data_ended b k d n → r ≡ s
data-last-unique b k d n = same

pub text-block-unique : (opening : Bool) (e : Keyed) (t : StateX) (k : ℕ) (d : Block) (n : ℕ) {r s : Fed}
    → r ≡ text_fed opening e t k d n → s ≡ text_fed opening e t k d n → r ≡ s
text-block-unique opening e t k d n = same

pub tag-of-unique : (e : Keyed) (t : StateX) {r s : Block} → r ≡ tagged e t → s ≡ tagged e t → r ≡ s
tag-of-unique e t = same
