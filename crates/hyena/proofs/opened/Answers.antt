use mathlib.Core.Path.{◌≡◌, ap, sym, ◌∙◌}
use Prim.Native.Nat.{ℕ}
use native.Mathlib.Omega.{arith}
use lib.ListN.{length}
use borrow.Author.Rules.{rules}
use Rattle.answers.specs.Told.{told}
use Rattle.hyena.specs.Entry.{Inputs, inputs, gift}
use Rattle.hyena.specs.Source.{source}
use Rattle.hyena.proofs.Steps.{taken}
use Rattle.hyena.proofs.Entry.{weighed, not-refused, open-refused, opened-is, wrong-is}
use Rattle.hyena.proofs.opened.Goals as goal
use Rattle.hyena.proofs.opened.Goals.{After-unwrap_or-n, In_ok-refusal}

abbrev given : After-unwrap_or-n → Inputs
given c = let a = c.args in inputs a.key.now a.nonce.now a.data.now (source a.ciphertext a.room.now)

-- how much there is to be worked on
len : (c : After-unwrap_or-n) → length c.unwrap_or-n.result.now ≡ length (given c).text
len c = ap length (taken c.args.ciphertext _ c.unwrap_or-n.ensures)

pub returns-in_err-refusal : goal.returns-in_err-refusal
returns-in_err-refusal c =
    let a = c.args in
    let at = (goal.at.returns-in_err-refusal c).After-unwrap_or-n in
    let n : ℕ = length c.unwrap_or-n.result.now in
    let answered : told c.from_residual.result ≡ weighed (given at) a.tag.now a.room.now n = search rules in
    open-refused (given at) a.tag.now a.room.now (len at) gift _ answered c.from_residual.ensures.0

pub returns-then-equal : goal.returns-then-equal
returns-then-equal c =
    let a = c.args in
    let at = (goal.at.returns-then-equal c).After-unwrap_or-n in
    -- no length is refused
    let lengths = not-refused (given at) a.tag.now a.room.now (len at) c.in_ok-refusal.ensures in
    opened-is gift (given at) _ _ lengths (omega arith) (omega arith) c.run-t.ensures.0 c.run-t.ensures.1
    c.load.ensures (sym c.equal.ensures ∙ c.if-equal.true)

pub returns : goal.returns
returns c =
    let a = c.args in
    let at = (goal.at.returns c).After-unwrap_or-n in
    let lengths = not-refused (given at) a.tag.now a.room.now (len at) c.in_ok-refusal.ensures in
    wrong-is gift (given at) _ _ lengths (omega arith) (omega arith) c.run-t.ensures.0 c.run-t.ensures.1
    c.load.ensures (len at) (sym c.equal.ensures ∙ c.if-equal.false) c.wipe.ensures
