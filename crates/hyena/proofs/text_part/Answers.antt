use mathlib.Core.Path.{◌≡◌, ap, subst, ◌∙◌}
use Prim.Native.Nat.{ℕ, ◌<◌}
use borrow.Author.Rules.{rules}
use lib.ListN.{get_or}
use Rattle.words.specs.Block.{halves, loaded}
use Rattle.words.specs.Bytes.{Bytes}
use Rattle.hyena_blocks.specs.Steps.{enciphers}
use Rattle.hyena.specs.Source.{source}
use Rattle.hyena.proofs.Steps.{taken, part-is}
use Rattle.hyena.proofs.text_part.Goals as goal

pub returns : goal.returns
returns c =
    let a = c.args in
    let w : c.unwrap_or-source.result.now ≡ source a.text a.room.now = taken a.text _ c.unwrap_or-source.ensures in
    let fits : (i : ℕ) → get_or c.unwrap_or-source.result.now i 0 < 256 = λ i. search rules in
    part-is (enciphers a.e) a.opening _ (subst Bytes w fits) a.t a.k a.at a.n a.room.now c.requires.0
    c.requires.1 (c.load-d.ensures ∙ ap (λ s. halves (loaded s a.at a.n)) w)
    (ap (λ u. u.state) c.text_block-u.ensures) (ap (λ u. u.out) c.text_block-u.ensures) c.store.ensures
