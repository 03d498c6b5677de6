use mathlib.Core.Bool.{cond}
use mathlib.Core.Path.{◌≡◌, ap, ◌∙◌}
use Prim.Native.Nat.{ℕ, ◌*◌, ◌/◌, ◌%◌, ◌^◌}
use native.Mathlib.Nat.{mod-lt, zero-lt-suc}
use Rattle.gift.specs.declared.TheConstants.{SBOX, SBOX_BACK}
use Rattle.gift.specs.Gift.{sbox, source}
use Rattle.gift.proofs.Steps.{packed}
use Rattle.gift.proofs.sbox_of.Goals as goal
use Rattle.gift.proofs.sbox_of.Goals.{then-back, else-back}

pub returns : goal.returns
unfolding sbox source
returns c =
    let e : c.if-back.sbox ≡ cond c.args.back SBOX_BACK SBOX =
    elim c.if-back.branch [
      | then-back w ↦ rw w.if-back.true w.sbox-is
      | else-back w ↦ rw w.if-back.false w.sbox-is
    ] in (
      ap (λ (p : ℕ). p / 2 ^ (4 * c.args.n) % 16) e ∙ packed c.args.back _ _ tt tt c.args.n c.requires,
      mod-lt _ (zero-lt-suc 15),
    )
