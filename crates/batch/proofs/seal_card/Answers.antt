use Rattle.std.proofs.Common.{◌≡◌, refl, sym, ap, ◌∙◌, subst, Bool, T, not}
use Rattle.std.specs.Prelude.{Result, Ok, Err, IsOk}
use Rattle.std.specs.Result.{result_unwrap_or}
use Rattle.answers.proofs.Answers.{done-is}
use Rattle.batch.proofs.Steps.{draw-done, seal-done}
use Rattle.batch.proofs.seal_card.Goals as goal

-- what is done is what would stand in its place
done : {A E : Type 0} (r : Result A E) (otherwise : A) → IsOk r → r ≡ Ok (result_unwrap_or r otherwise)
done (Ok x) otherwise i = refl
done (Err why) otherwise i = absurd (subst (λ (b : Bool). T (not b)) i tt)

pub unwrap-requires : goal.unwrap-requires
unwrap-requires c =
    let a = c.args in
    let p = c.requires in
    let drawn : c.draw.result ≡ Ok c.unwrap_or-drawn.result =
    done c.draw.result _ (done-is c.draw.result (draw-done a.d p.3 c.draw.ensures))
    ∙ ap Ok (sym c.unwrap_or-drawn.ensures) in
    done-is c.seal.result
    (seal-done a.key.now a.«data».now a.text.now a.d a.room.now a.tag.now
    (rw drawn at c.draw.ensures) c.seal.ensures p.0 p.1 p.2 p.3 p.4 p.5)
