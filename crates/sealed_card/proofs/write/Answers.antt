use Rattle.std.proofs.Common.{◌≡◌, ◌∙◌, length, take, arith}
use lib.Seq.{length-take-le}
use Rattle.answers.proofs.Answers.{done-is}
use Rattle.words.specs.Bytes.{bytes}
use Rattle.sealed_card.proofs.SealedCards.{not-refused, written_is}
use Rattle.sealed_card.proofs.write.Goals as goal
use Rattle.sealed_card.proofs.write.Goals.{After-split_at_mut-ciphertext}

-- behind the ciphertext there is room for the tag
tag_fits : (c : After-split_at_mut-ciphertext) → length (take 16 c.split_at_mut-ciphertext.result.1.now) ≡ 16
tag_fits c =
    length-take-le 16 c.split_at_mut-ciphertext.result.1.now
    (omega (
      arith,
      c.requires.4,
      c.split_at_mut-front.ensures.back_len,
      c.split_at_mut-length.ensures.back_len,
      c.split_at_mut-ciphertext.ensures.back_len,
    ))

pub unwrap-requires : goal.unwrap-requires
unwrap-requires c =
    let a = c.args in
    let p = c.requires in
    done-is c.seal.result
    (not-refused a.key.now a.nonce.now a.«data».now a.text.now p.0 p.1 p.2 p.3 _ _
    c.split_at_mut-ciphertext.ensures.front_len
    (tag_fits (goal.at.unwrap-requires c).After-split_at_mut-ciphertext) c.seal.ensures)

pub returns : goal.returns
unfolding bytes
returns c =
    let a = c.args in
    let p = c.requires in
    written_is a.key.now a.nonce.now a.«data».now a.text.now p.0 p.1 p.2 p.3 _ _
    c.split_at_mut-ciphertext.ensures.front_len (tag_fits (goal.at.returns c).After-split_at_mut-ciphertext)
    c.seal.ensures a.room.now _ _ _ _ _
    c.split_at_mut-front.ensures.back c.split_at_mut-length.ensures.back c.split_at_mut-ciphertext.ensures.back
    c.copy_from_slice.ensures.after (c.copy_from_slice-2.ensures.after ∙ c.to_le_bytes.ensures)
