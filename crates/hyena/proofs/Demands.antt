-- The demands hold over every block cipher that has an inverse, so over GIFT-128.
use mathlib.Core.Path.{◌≡◌, refl, sym, ap, ap₂, ◌∙◌}
use mathlib.Core.Bool.{Bool, true, false, not}
use mathlib.Core.List.{List}
use Prim.Native.Nat.{ℕ, ◌≤◌}
use native.Mathlib.Omega.{arith}
use borrow.Author.Tests.{eqb-true, not-false, eq-eqb, ne_eqb, le-ltb}
use lib.ListN.{length, take, replicate}
use Rattle.words.specs.Bytes.{Bytes, number, bytes, over}
use Rattle.words.proofs.Bytes.{length-bytes, bytes-bytes, number-bytes, number-inj}
use Rattle.words.proofs.Over.{take-over}
use Rattle.answers.specs.Answers.{Answer, answered}
use Rattle.answers.proofs.Answers.{Clear, clear-number, judged-clear, refuse-clear, refuse-done, answer-done}
use Rattle.gift.specs.Gift.{decipher}
use Rattle.gift.proofs.Inverse.{cipher-lt, decipher-encipher}
use Rattle.mode.specs.Demands.{Inverted, Alike}
use Rattle.mode.specs.Hyena.{tag}
use Rattle.mode.proofs.Trip.{length-outputs, round_trip}
use Rattle.mode.proofs.Bounds.{tag-lt}
use Rattle.mode.proofs.Differ.{same_tag}
use Rattle.hyena.specs.Demands.{with_text, Demands}
use Rattle.hyena.specs.Entry.{Inputs, refusals, output_of, tag_of, Sealed, sealing, wrong_tag, opening, gift}
use Rattle.hyena.proofs.Entry.{allowed, opening-by}

-- another text as long, a tag and room for the text are not refused either
reclear : (i : Inputs) (tag room c t room' : List ℕ) → Clear (refusals i tag room) → length c ≡ length i.text
    → length t ≡ 16 → length i.text ≤ length room'
    → Clear (refusals (with_text i c) t room')
reclear i tag room c t room' (key, (nonce, («data», (text, more)))) lc lt fits = (
  key,
  (
    nonce,
    (
      «data»,
      (
        rw lc text,
        (
          ap not (eq-eqb (length t) 16 lt),
          (le-ltb (length room') (length c) (omega arith), tt),
        ),
      ),
    ),
  ),
)

module _ (cipher : List ℕ → ℕ → ℕ) where
  -- ---- the verdict

  module _ (i : Inputs) (tag room : List ℕ) (h : Bytes tag) where
    -- tags of 16 bytes are compared as numbers
    same_number : Clear (refusals i tag room) → number tag ≡ number (tag_of cipher true i) → tag ≡ tag_of cipher true i
    same_number c e =
        number-inj tag (tag_of cipher true i) h (bytes-bytes 16 _)
        ((allowed i tag room c).tag-16 ∙ sym (length-bytes 16 _)) e

    accepted : (opening cipher i tag room).number ≡ 0 → Clear (refusals i tag room) × (tag ≡ tag_of cipher true i)
    unfolding opening
    accepted e =
        let p = refuse-done room _ (refusals i tag room) tt e in
        let q = refuse-done _ _ (wrong_tag cipher i tag) tt p.1 in
        (p.0, same_number p.0 (eqb-true _ _ (not-false _ q.0.0)))

    right : Clear (refusals i tag room) → tag ≡ tag_of cipher true i
        → opening cipher i tag room ≡ answered 0 (over (output_of cipher true i) room)
    right c e = opening-by cipher i tag room c true (eq-eqb (number tag) (number (tag_of cipher true i)) (ap number e))

    wrong : Clear (refusals i tag room) → (tag ≡ tag_of cipher true i → ⊥)
        → opening cipher i tag room ≡ answered 7 (over (replicate (length i.text) 0) room)
    wrong c ne =
        opening-by cipher i tag room c false
        (ne_eqb (number tag) (number (tag_of cipher true i)) (λ e. ne (same_number c e)))

  -- ---- there and back, either way

  module _ (i : Inputs) (way : Bool) where
    there : Inputs
    there = with_text i (output_of cipher way i)

    comes_back : output_of cipher (not way) there ≡ i.text
    unfolding there
    comes_back = (round_trip (cipher i.key) way i.nonce i.«data» i.text).0

    same-tags : tag_of cipher (not way) there ≡ tag_of cipher way i
    unfolding there
    same-tags = ap (bytes 16) (round_trip (cipher i.key) way i.nonce i.«data» i.text).1

    out-length : length (output_of cipher way i) ≡ length i.text
    out-length = length-outputs (cipher i.key) way i.nonce i.«data» i.text

    -- what was written is found at the front of the room
    front : (room : List ℕ) → take (length i.text) (over (output_of cipher way i) room) ≡ output_of cipher way i
    front room =
        ap (λ (n : ℕ). take n (over (output_of cipher way i) room)) (sym out-length)
        ∙ take-over (output_of cipher way i) room

  sealed-opens : (i : Inputs) (room tag room' : List ℕ) → (sealing cipher i room tag).number ≡ 0
      → length i.text ≤ length room'
      → let s = (sealing cipher i room tag).outcome in opening cipher (with_text i (take (length i.text) s.room))
      s.tag room' ≡ answered 0 (over i.text room')
  unfolding sealing there
  sealed-opens i room tag room' e fits =
      let d = answer-done _ _ (refusals i tag room) tt e in
      let t = tag_of cipher false i in
      let l : length t ≡ 16 = length-bytes 16 _ in
      ap (λ (a : Answer Sealed). opening cipher (with_text i (take (length i.text) a.outcome.room))
      a.outcome.tag room') d.1
      ∙ ap (λ (c : List ℕ). opening cipher (with_text i c) t room') (front i false room)
      ∙ right (there i false) t room' (bytes-bytes 16 _) (reclear i tag room (output_of cipher false i) t room' d.0
      (out-length i false) l fits) (sym (same-tags i false))
      ∙ ap (λ (m : List ℕ). answered 0 (over m room')) (comes_back i false)

  opened-seals : (i : Inputs) (tag room room' tag' : List ℕ) → Bytes tag → (opening cipher i tag room).number ≡ 0
      → length i.text ≤ length room' → length tag' ≡ 16
      → let t = take (length i.text) (opening cipher i tag room).outcome in
      sealing cipher (with_text i t) room' tag' ≡ answered 0 (record { room = over i.text room'; tag = tag })
  unfolding sealing there
  opened-seals i tag room room' tag' h e fits lt =
      let a = accepted i tag room h e in
      let k = reclear i tag room (output_of cipher true i) tag' room' a.0 (out-length i true) lt fits in
      ap (λ (z : Answer (List ℕ)). sealing cipher (with_text i (take (length i.text) z.outcome)) room' tag')
      (right i tag room h a.0 a.1)
      ∙ ap (λ (m : List ℕ). sealing cipher (with_text i m) room' tag') (front i true room)
      ∙ refuse-clear _ _ (refusals (there i true) tag' room') k
      ∙ ap₂ (λ (c t : List ℕ). answered 0 (record { room = over c room'; tag = t })) (comes_back i true)
      (same-tags i true ∙ sym a.1)

-- ---- all of it

module _ (cipher inverse : List ℕ → ℕ → ℕ) (inv : (key : List ℕ) → Inverted (cipher key) (inverse key)) where
  differ : (i : Inputs) (d : List ℕ) → Bytes i.nonce → length i.nonce ≡ 12 → Bytes i.«data» → Bytes i.text
      → Bytes d → Alike i.text d
      → (i.text ≡ d → ⊥) → tag_of cipher true i ≡ tag_of cipher true (with_text i d) → ⊥
  differ i d hn ln ha hc hd al ne e =
      let v = inv i.key in
      ne (same_tag v i.nonce i.«data» i.text d hn ln ha hc hd al
      (sym (number-bytes 16 _ (tag-lt v true i.nonce i.«data» i.text hn ln ha hc)) ∙ ap number e
      ∙ number-bytes 16 _ (tag-lt v true i.nonce i.«data» d hn ln ha hd)))

  pub demands : Demands cipher
  demands =
      record {
        opens-sealed = sealed-opens cipher;
        seals-opened = opened-seals cipher;
        accepts = λ i tag room h. (
          λ e. let a = accepted cipher i tag room h e in (clear-number (refusals i tag room) a.0, a.1),
          λ p. ap (λ (a : Answer (List ℕ)). a.number)
              (right cipher i tag room h (judged-clear (refusals i tag room) refl tt p.0) p.1),
        );
        rejects = λ i tag room h z ne. wrong cipher i tag room h (judged-clear (refusals i tag room) refl tt z) ne;
        tags-differ = differ;
        no-tag-opens-both = λ i d hn ha hc hd al ne tag room room' ht p q.
            let a = accepted cipher i tag room ht p in
            let b = accepted cipher (with_text i d) tag room' ht q in
            differ i d hn (allowed i tag room a.0).nonce-12 ha hc hd al ne (sym a.1 ∙ b.1);
      }

-- GIFT-128 is such a cipher
pub gift-demands : Demands gift
gift-demands =
    demands gift (λ key. decipher (number key)) (λ key.
    record { block = cipher-lt false (number key); undone = decipher-encipher (number key) })
