use mathlib.Core.Path.{ap, ◌∙◌}
use Prim.Native.Nat.{ℕ}
use lib.ListN.{length}
use Rattle.hyena_blocks.specs.Steps.{started}
use Rattle.hyena.specs.Source.{source}
use Rattle.hyena.proofs.Steps.{taken}
use Rattle.hyena.proofs.Entry.{ran}
use Rattle.hyena.proofs.run.Goals as goal

pub returns : goal.returns
returns c =
    let a = c.args in
    ran a.opening a.key.now a.nonce.now a.«data».now
    (source a.text a.room.now) a.room.now c.keyed_of-e.result c.requires.0 c.requires.1
    c.load.ensures c.keyed_of-e.ensures
    (c.start-s.ensures
    ∙ ap (λ (n : ℕ). started c.keyed_of-e.result a.nonce.now (length a.«data».now) n)
    (ap length (taken a.text _ c.unwrap_or-n.ensures)))
    c.all_data-t.ensures c.all_text-u.ensures.0 c.all_text-u.ensures.1 c.tag_of.ensures
