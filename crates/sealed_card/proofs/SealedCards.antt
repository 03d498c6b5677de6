-- What the code makes, from what its calls ensure.
use mathlib.Core.Path.{◌≡◌, refl, sym, ap, ap₂, ◌∙◌}
use mathlib.Core.Bool.{false}
use mathlib.Core.List.{List, ◌++◌, append_assoc, append-nil}
use Prim.Native.Nat.{ℕ, ◌+◌, ◌-◌, ◌≤◌}
use native.Mathlib.Omega.{arith}
use lib.ListN.{length, take, drop, length-append, length-drop, drop_of_length-le}
use lib.Seq.{take_all, drop-drop}
use borrow.Author.Tests.{eqb-true, not-false, ltb-false}
use Rattle.std.specs.Prelude.{Err}
use Rattle.words.specs.Block.{part}
use Rattle.words.specs.Bytes.{bytes, over}
use Rattle.words.proofs.Bytes.{length-bytes}
use Rattle.answers.specs.declared.Refusal.{Refusal}
use Rattle.answers.specs.Told.{number_of_refusal}
use Rattle.answers.specs.Answers.{Row, number_of, Answer, answered}
use Rattle.answers.proofs.Answers.{Clear, refuse-clear, handed-on, goes-on}
use Rattle.hyena.specs.Entry as hyena
use Rattle.hyena.specs.Entry.{Inputs, inputs, output_of, tag_of, gift}
use Rattle.hyena.proofs.Entry.{sealing-done}
use Rattle.mode.proofs.Trip.{length-outputs}
use Rattle.sealed_card.specs.SealedCard.{card_of, seal_rows, sealing, Sealing, length_in, open_rows, opening, Opening}

-- ---- sealing

-- a room that is filled
over-all : (out room : List ℕ) → length room ≤ length out → over out room ≡ out
unfolding over
over-all out room h = rw (drop_of_length-le room {i = length out} h) (append-nil out)

module _ (key nonce «data» text : List ℕ) (lk : length key ≡ 16) (ln : length nonce ≡ 12) (la : length «data» ≤ 65536)
    (lt : length text ≤ 65535) where
  abbrev ct : List ℕ
  ct = output_of gift false (inputs key nonce «data» text)

  abbrev tag : List ℕ
  tag = tag_of gift false (inputs key nonce «data» text)

  length-ct : length ct ≡ length text
  length-ct = length-outputs (gift key) false nonce «data» text

  length-tag : length tag ≡ 16
  length-tag = length-bytes 16 _

  -- the ciphertext is given a room of its length
  module _ {n : ℕ} (room tag-room : List ℕ) {p q : List ℕ} (lr : length room ≡ length text)
      (lt' : length tag-room ≡ 16)
      (es : hyena.Sealing gift n (inputs key nonce «data» text) room tag-room p q) where
    done : answered {A = hyena.Sealed} n (record { room = p; tag = q })
        ≡ answered 0 (record { room = over ct room; tag = tag })
    done = es ∙ sealing-done gift (inputs key nonce «data» text) tag-room room lk ln la (omega arith) lt' (omega arith)

    pub not-refused : n ≡ 0
    not-refused = ap (λ (a : Answer hyena.Sealed). a.number) done

    ciphertext-is : p ≡ ct
    ciphertext-is =
        ap (λ (a : Answer hyena.Sealed). a.outcome.room) done ∙ over-all ct room (omega (arith, length-ct))

    tag-is : q ≡ tag
    tag-is = ap (λ (a : Answer hyena.Sealed). a.outcome.tag) done

    -- the parts are written one behind the other, and what is behind them stays
    pub written_is : (whole r₁ r₂ r₃ f l : List ℕ) → r₁ ≡ drop 12 whole → r₂ ≡ drop 2 r₁ → r₃ ≡ drop (length text) r₂
        → f ≡ nonce → l ≡ bytes 2 (length text)
        → f ++ (l ++ (p ++ (q ++ drop 16 r₃))) ≡ over (card_of (inputs key nonce «data» text)) whole
    unfolding card_of over
    written_is whole r₁ r₂ r₃ f l e₁ e₂ e₃ ef el =
        let card = nonce ++ bytes 2 (length text) ++ ct ++ tag in
        let lc : length card ≡ 14 + length text + 16 =
        simp length-append (omega (arith, ln, length-bytes 2 (length text), length-ct, length-tag)) in
        let behind : drop 16 r₃ ≡ drop (length card) whole =
        rw (e₃, e₂, e₁) (simp drop-drop (ap (λ (k : ℕ). drop k whole) (sym lc))) in
        rw (ef, el, ciphertext-is, tag-is, behind) (simp append_assoc)

-- what is not refused
pub record Sealable (key nonce «data» text room : ℕ) : Type 0 where
  pub key-16 : key ≡ 16
  pub nonce-12 : nonce ≡ 12
  pub ad-most : «data» ≤ 65536
  pub text-most : text ≤ 65535
  pub room_fits : text + 30 ≤ room

pub sealable : (key nonce «data» text room : ℕ) → Clear (seal_rows key nonce «data» text room)
    → Sealable key nonce «data» text room
sealable key nonce «data» text room (k, (n, (a, (t, (r, none))))) =
    record {
      key-16 = eqb-true _ _ (not-false _ k);
      nonce-12 = eqb-true _ _ (not-false _ n);
      ad-most = ltb-false _ _ a;
      text-most = ltb-false _ _ t;
      room_fits = ltb-false _ _ r;
    }

module _ (i : Inputs) (room : List ℕ) where
  abbrev sealed-by : List Row
  sealed-by = seal_rows (length i.key) (length i.nonce) (length i.«data») (length i.text) (length room)

  pub seal-refused : (why : Refusal) → number_of_refusal why ≡ number_of sealed-by
      → Sealing (number_of_refusal why) i room room
  unfolding sealing
  seal-refused why e = handed-on {B = Unit {0}} (Err why) sealed-by e refl room _

  pub sealed-is : {room' : List ℕ} → 0 ≡ number_of sealed-by → room' ≡ over (card_of i) room → Sealing 0 i room room'
  unfolding sealing
  sealed-is e es = ap (answered 0) es ∙ sym (refuse-clear room _ sealed-by (goes-on sealed-by e tt))

-- ---- opening

module _ (key «data» card room : List ℕ) {n : ℕ} (en : n ≡ length_in card) where
  abbrev judged-by : List Row
  judged-by = open_rows (length key) (length «data») (length card) n (length room)

  abbrev opened-by : List Row
  opened-by = open_rows (length key) (length «data») (length card) (length_in card) (length room)

  weighed : number_of judged-by ≡ number_of opened-by
  weighed = ap (λ (k : ℕ). number_of (open_rows (length key) (length «data») (length card) k (length room))) en

  pub open-refused : (why : Refusal) → number_of_refusal why ≡ number_of judged-by
      → Opening (number_of_refusal why) key «data» card room room
  unfolding opening
  open-refused why e = handed-on {B = Unit {0}} (Err why) opened-by (e ∙ weighed) refl room _

  pub opened-is : (w : ℕ) → 0 ≡ number_of judged-by → w ≡ n → {m : ℕ} {x : List ℕ}
      → hyena.Opening gift m (inputs key (take 12 card) «data» (take (14 + w - 14) (drop 14 card)))
      (take (length card - (14 + w)) (drop (14 + w) card)) room x
      → Opening m key «data» card room x
  unfolding opening
  opened-is w e ew es =
      let e₁ : 14 + w - 14 ≡ length_in card = omega arith in
      let e₂ : take (length card - (14 + w)) (drop (14 + w) card) ≡ drop (14 + length_in card) card =
      take_all (length card - (14 + w)) (drop (14 + w) card) (simp length-drop (omega arith))
      ∙ ap (λ (k : ℕ). drop (14 + k) card) (ew ∙ en) in
      es
      ∙ ap₂ (λ (k : ℕ) (t : List ℕ). hyena.opening gift (inputs key (part card 0 12) «data» (part card 14 k)) t room)
      e₁ e₂
      ∙ sym (refuse-clear room _ opened-by (goes-on opened-by (e ∙ weighed) tt))
