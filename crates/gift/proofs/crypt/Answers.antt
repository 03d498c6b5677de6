use mathlib.Core.Path.{◌≡◌}
use lib.ListN.{length}
use borrow.Author.Rules.{rules}
use Rattle.answers.specs.Answers.{number_of}
use Rattle.answers.specs.Told.{told}
use Rattle.answers.proofs.Answers.{handed-on, goes-on}
use Rattle.gift.specs.Entry.{rows, crypting}
use Rattle.gift.proofs.Entry.{crypted}
use Rattle.gift.proofs.crypt.Goals as goal

pub returns-in_err-refusal : goal.returns-in_err-refusal
unfolding crypting
returns-in_err-refusal c =
    let judged = rows (length c.args.key.now) (length c.args.block.now) in
    let e : told c.from_residual.result ≡ number_of judged = search rules in
    handed-on _ judged e c.from_residual.ensures.0 _ _

pub returns : goal.returns
returns c =
    let a = c.args in
    crypted a.back a.key.now a.block.now
    (goes-on (rows (length a.key.now) (length a.block.now)) c.in_ok-refusal.ensures tt)
    c.load.ensures c.round_keys_of-a.ensures c.load-x.ensures
    c.forty_rounds.ensures c.store.ensures
