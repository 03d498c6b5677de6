use mathlib.Core.Path.{ap, ◌∙◌}
use Prim.Native.Nat.{ℕ, ◌-◌, ◌/◌, ◌%◌, ◌^◌}
use native.Mathlib.Omega.{arith}
use Rattle.words.proofs.Fields.{field-low, field-high, one_shl}
use Rattle.gift.proofs.bits_at.Goals as goal

pub returns-then-s-lt64 : goal.returns-then-s-lt64
returns-then-s-lt64 c =
    let a = c.args in
    ap (λ (m : ℕ). a.b.lo / 2 ^ a.s % m) (one_shl a.w c.requires.2) ∙ field-low a.b a.s a.w (omega arith)

pub returns-else-s-lt64 : goal.returns-else-s-lt64
returns-else-s-lt64 c =
    let a = c.args in
    ap (λ (m : ℕ). a.b.hi / 2 ^ (a.s - 64) % m) (one_shl a.w c.requires.2)
    ∙ field-high a.b a.s (a.s - 64) a.w (omega arith) (omega arith)
