use Rattle.std.proofs.Common.{sym, ◌≡◌, ◌∙◌, ◌+◌, ◌*◌, ◌-◌, ◌≤◌, ◌<◌, ◌^◌, slice_index_or}
use native.Mathlib.Omega.{arith}
use Rattle.decimal.proofs.Decimals.{is_digit, no_digit, too_large, one_more, start, nothing, at_byte, at_end}
use Rattle.decimal.proofs.number.Goals as goal

pub returns-then-is_empty : goal.returns-then-is_empty
returns-then-is_empty c = nothing _ (grind arith)

pub loop-b-init : goal.loop-b-init
loop-b-init c = (omega arith, start _ (grind arith))

pub returns-in_err-checked_mul : goal.returns-in_err-checked_mul
returns-in_err-checked_mul c =
    let b = slice_index_or c.args.word.now c.loop-b.b-index 0 in
    let large : 2 ^ 64 ≤ c.loop-b.value * 10 + (b - 48) = grind arith in
    c.from_residual.ensures
    ∙ sym (too_large c.loop-b.value b _ large)
    ∙ at_byte _ _ _ c.loop-b.invariant.1 c.loop-b-test.true

pub returns-in_err-digit : goal.returns-in_err-digit
returns-in_err-digit c =
    c.from_residual-in_err-digit.ensures
    ∙ sym (no_digit c.loop-b.value _ _ (sym c.digit.ensures ∙ c.in_err-digit.was))
    ∙ at_byte _ _ _ c.loop-b.invariant.1 c.loop-b-test.true

pub returns-in_err-value : goal.returns-in_err-value
returns-in_err-value c =
    let b = slice_index_or c.args.word.now c.loop-b.b-index 0 in
    let d = is_digit b _ (sym c.digit.ensures ∙ c.in_ok-digit.was) in
    let large : 2 ^ 64 ≤ c.loop-b.value * 10 + (b - 48) = grind arith in
    c.from_residual-in_err-value.ensures
    ∙ sym (too_large c.loop-b.value b _ large)
    ∙ at_byte _ _ _ c.loop-b.invariant.1 c.loop-b-test.true

pub loop-b-preserved : goal.loop-b-preserved
loop-b-preserved c =
    let fits : c.in_ok-value.value < 2 ^ 64 = grind arith in
    let is : c.in_ok-value.value ≡ c.loop-b.value * 10 + c.in_ok-digit.field-0 = grind arith in (
      fits,
      rw is (one_more c.loop-b.value _ _ (sym c.digit.ensures ∙ c.in_ok-digit.was)
          ∙ at_byte _ _ _ c.loop-b.invariant.1 c.loop-b-test.true),
    )

pub returns : goal.returns
returns c = at_end _ c.loop-b.b-index _ c.loop-b.invariant.1 (omega arith) c.loop-b.invariant.0
