use mathlib.Core.Path.{◌≡◌, ap}
use Prim.Native.Nat.{ℕ}
use lib.ListN.{length}
use borrow.Author.Rules.{rules}
use Rattle.answers.specs.Told.{told}
use Rattle.hyena.specs.Entry.{Inputs, inputs, gift}
use Rattle.hyena.specs.Source.{source}
use Rattle.hyena.proofs.Steps.{taken}
use Rattle.hyena.proofs.Entry.{weighed, not-refused, seal-refused, sealed-is}
use Rattle.hyena.proofs.sealed.Goals as goal
use Rattle.hyena.proofs.sealed.Goals.{After-unwrap_or-n}

abbrev given : After-unwrap_or-n → Inputs
given c = let a = c.args in inputs a.key.now a.nonce.now a.data.now (source a.text a.room.now)

-- how much there is to be worked on
len : (c : After-unwrap_or-n) → length c.unwrap_or-n.result.now ≡ length (given c).text
len c = ap length (taken c.args.text _ c.unwrap_or-n.ensures)

pub returns-in_err-refusal : goal.returns-in_err-refusal
returns-in_err-refusal c =
    let a = c.args in
    let at = (goal.at.returns-in_err-refusal c).After-unwrap_or-n in
    let n : ℕ = length c.unwrap_or-n.result.now in
    let answered : told c.from_residual.result ≡ weighed (given at) a.tag.now a.room.now n = search rules in
    seal-refused (given at) a.tag.now a.room.now (len at) gift _ answered c.from_residual.ensures.0

pub returns : goal.returns
returns c =
    let a = c.args in
    let at = (goal.at.returns c).After-unwrap_or-n in
    -- no length is refused
    let lengths = not-refused (given at) a.tag.now a.room.now (len at) c.in_ok-refusal.ensures in
    sealed-is gift (given at) _ _ lengths c.run-t.ensures.0 c.run-t.ensures.1 c.store.ensures
