-- A card that was sealed opens: its text comes back.
use mathlib.Core.Path.{◌≡◌, refl, sym, ap, ap₂, ◌∙◌}
use mathlib.Core.Bool.{false, not}
use mathlib.Core.List.{List, ◌++◌, append_assoc}
use Prim.Native.Nat.{ℕ, ◌+◌, ◌<◌, ◌≤◌}
use native.Mathlib.Omega.{arith}
use lib.ListN.{length, take, drop, replicate, length-append}
use lib.Seq.{take_at, drop_at}
use borrow.Author.Tests.{eq-eqb, le-ltb}
use Rattle.words.specs.Bytes.{number, bytes, over}
use Rattle.answers.specs.Answers.{Answer, answered}
use Rattle.words.proofs.Bytes.{length-bytes, number-bytes}
use Rattle.words.proofs.Over.{take-over}
use Rattle.answers.proofs.Answers.{Clear, refuse-clear, answer-done}
use Rattle.hyena.specs.Entry as hyena
use Rattle.hyena.specs.Entry.{inputs, Inputs, output_of, tag_of, gift}
use Rattle.mode.proofs.Trip.{length-outputs}
use Rattle.hyena.proofs.Entry.{sealing-done}
use Rattle.hyena.proofs.Demands.{gift-demands}
use Rattle.sealed_card.specs.SealedCard.{card_of, seal_rows, sealing, length_in, nonce_in, ciphertext_in, tag_in}
use Rattle.sealed_card.specs.SealedCard.{open_rows, opening}
use Rattle.sealed_card.proofs.SealedCards.{sealable}

module _ (key nonce «data» text : List ℕ) (lk : length key ≡ 16) (ln : length nonce ≡ 12) (la : length «data» ≤ 65536)
    (lt : length text ≤ 65535) where
  abbrev ct : List ℕ
  ct = output_of gift false (inputs key nonce «data» text)

  abbrev tag : List ℕ
  tag = tag_of gift false (inputs key nonce «data» text)

  abbrev card : List ℕ
  card = card_of (inputs key nonce «data» text)

  length-ct : length ct ≡ length text
  length-ct = length-outputs (gift key) false nonce «data» text

  length-tag : length tag ≡ 16
  length-tag = length-bytes 16 _

  -- the parts of a card, from the front
  at-nonce : card ≡ nonce ++ (bytes 2 (length text) ++ (ct ++ tag))
  unfolding card_of
  at-nonce =
      append_assoc (nonce ++ bytes 2 (length text)) ct tag ∙ append_assoc nonce (bytes 2 (length text)) (ct ++ tag)

  after-nonce : drop 12 card ≡ bytes 2 (length text) ++ (ct ++ tag)
  after-nonce = ap (drop 12) at-nonce ∙ drop_at nonce (bytes 2 (length text) ++ (ct ++ tag)) 12 ln

  after-head : drop 14 card ≡ ct ++ tag
  unfolding card_of
  after-head =
      ap (drop 14) (append_assoc (nonce ++ bytes 2 (length text)) ct tag)
      ∙ drop_at (nonce ++ bytes 2 (length text)) (ct ++ tag) 14
      (length-append nonce (bytes 2 (length text)) ∙ ap₂ ◌+◌ ln (length-bytes 2 (length text)))

  length-card : length card ≡ length text + 30
  length-card =
      ap length at-nonce ∙ length-append nonce (bytes 2 (length text) ++ (ct ++ tag))
      ∙ omega (
        arith,
        ln,
        length-append (bytes 2 (length text)) (ct ++ tag),
        length-bytes 2 (length text),
        length-append
            ct tag,
        length-ct,
        length-tag,
      )

  says : length_in card ≡ length text
  unfolding length_in
  says =
      ap (λ (l : List ℕ). number (take 2 l)) after-nonce
      ∙ ap number (take_at (bytes 2 (length text)) (ct ++ tag) 2 (length-bytes 2 (length text)))
      ∙ number-bytes 2 (length text) small
    where
      small : length text < 65536
      small = omega arith

  nonce-in : nonce_in card ≡ nonce
  nonce-in = ap (take 12) at-nonce ∙ take_at nonce (bytes 2 (length text) ++ (ct ++ tag)) 12 ln

  ciphertext-in : ciphertext_in card ≡ ct
  ciphertext-in = ap₂ take says after-head ∙ take_at ct tag (length text) length-ct

  tag-in : tag_in card ≡ tag
  unfolding card_of
  tag-in =
      ap (λ (n : ℕ). drop (14 + n) card) says
      ∙ drop_at (nonce ++ bytes 2 (length text) ++ ct) tag (14 + length text)
      (length-append (nonce ++ bytes 2 (length text)) ct
      ∙ ap₂ ◌+◌ (length-append nonce (bytes 2 (length text)) ∙ ap₂ ◌+◌ ln (length-bytes 2 (length text))) length-ct)

  module _ (room : List ℕ) (fits : length text ≤ length room) where
    clear : Clear (open_rows (length key) (length «data») (length card) (length_in card) (length room))
    clear =
        let f : length_in card ≤ length room = omega (arith, says) in
        let l : length_in card + 30 ≤ length card = omega (arith, says, length-card) in
        let m : length card ≤ length_in card + 30 = omega (arith, says, length-card) in
        (ap not (eq-eqb _ _ lk), (le-ltb _ _ la, (le-ltb _ _ l, (le-ltb _ _ m, (le-ltb _ _ f, tt)))))

    opened : opening key «data» card room ≡ answered 0 (over text room)
    unfolding opening
    opened =
        let e : hyena.sealing gift (inputs key nonce «data» text) text (replicate 16 0)
        ≡ answered 0 (record { room = over ct text; tag = tag }) =
        sealing-done gift (inputs key nonce «data» text) (replicate 16 0) text lk ln la (omega arith) refl
        (omega arith) in
        let o : hyena.opening gift (inputs key nonce «data» (take (length text) (over ct text))) tag room
        ≡ answered 0 (over text room) =
        ap (λ (a : Answer hyena.Sealed). hyena.opening gift
        (inputs key nonce «data» (take (length text) a.outcome.room)) a.outcome.tag room) (sym e)
        ∙ gift-demands.opens-sealed (inputs key nonce «data» text) text (replicate 16 0) room
        (ap (λ (a : Answer hyena.Sealed). a.number) e) fits in
        let t : take (length text) (over ct text) ≡ ct =
        ap (λ (n : ℕ). take n (over ct text)) (sym length-ct) ∙ take-over ct text in
        refuse-clear room _ (open_rows (length key) (length «data») (length card) (length_in card) (length room)) clear
        ∙ rw (nonce-in, ciphertext-in, tag-in)
        (ap (λ (c : List ℕ). hyena.opening gift (inputs key nonce «data» c) tag room) (sym t) ∙ o)

-- whatever sealing did not refuse, in room for the text
pub opening-sealed : (i : Inputs) (room room' : List ℕ) → length i.text ≤ length room' → (sealing i room).number ≡ 0
    → opening i.key i.«data» (card_of i) room' ≡ answered 0 (over i.text room')
unfolding sealing
opening-sealed i room room' fits e =
    let l = sealable _ _ _ _ _ (answer-done _ _ (seal_rows (length i.key) (length i.nonce) (length i.«data»)
    (length i.text) (length room)) tt e).0 in
    opened i.key i.nonce i.«data» i.text l.key-16 l.nonce-12 l.ad-most l.text-most room' fits
