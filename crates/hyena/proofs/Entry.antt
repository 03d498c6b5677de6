-- What a call leaves, from what its steps ensure.
use mathlib.Core.Path.{◌≡◌, refl, sym, ap, ap₂, fun_ext, ◌∙◌}
use mathlib.Core.Bool.{Bool, true, false, cond, not}
use mathlib.Core.List.{List, ◌++◌, append-nil}
use Prim.Native.Nat.{ℕ, ◌^◌, ◌≤◌, ◌<◌}
use native.Mathlib.Omega.{arith}
use borrow.Author.Tests.{eqb-true, not-false, ltb-false, eq-eqb, le-ltb}
use lib.Dec.{eqb}
use lib.ListN.{length, replicate, length-replicate, drop_of_length-le}
use lib.Seq.{sets, take_all}
use Rattle.words.specs.declared.Block.{Block}
use Rattle.words.specs.Block.{value, halves, loaded, stored}
use Rattle.words.specs.Bytes.{number, bytes, over}
use Rattle.words.proofs.Blocks.{value-halves, value-is, value-lt, loaded-all, stored-all}
use Rattle.words.proofs.Bytes.{number-bytes, length-bytes}
use Rattle.words.proofs.Over.{length_over, over-over, sets-front}
use Rattle.answers.specs.Answers.{Answer, answered, number_of}
use Rattle.answers.proofs.Answers.{Clear, refuse-clear, answer-done, answer-has, handed-on, goes-on}
use Rattle.answers.specs.declared.Refusal.{Refusal}
use Rattle.answers.specs.Told.{told}
use Rattle.std.specs.Prelude.{Result, IsErr}
use Rattle.gift.specs.Gift.{encipher}
use Rattle.gift.proofs.Entry.{enciphers-is}
use Rattle.mode.specs.Hyena as mode
use Rattle.mode.specs.Hyena.{start_block, data_first, after_data, after_text, swapped, ended, outputs, tag}
use Rattle.mode.proofs.Trip.{data-out, length-outputs}
use Rattle.hyena_blocks.specs.declared.keyed.Keyed.{Keyed}
use Rattle.hyena_blocks.specs.declared.StateY.{StateY}
use Rattle.hyena_blocks.specs.declared.StateX.{StateX}
use Rattle.hyena_blocks.specs.Steps.{keyed, enciphers, held_y, held_x, read_y, read_x, started, tagged}
use Rattle.hyena_blocks.proofs.Steps.{read_y-held, read_x-held}
use Rattle.hyena.specs.Entry.{rows, Inputs, refusals, Sealed, output_of, tag_of, Sealing, sealing}
use Rattle.hyena.specs.Entry.{Opening, opening, gift}

-- ---- the steps, one after the other

ended_is : (E : ℕ → ℕ) (way : Bool) (nonce a d : List ℕ) {s : StateY} {t : StateX}
    → s ≡ held_y (data_first (E (start_block nonce (length a) (length d))))
    → t ≡ held_x (after_data E (read_y s) a) → after_text E way (read_x t) d ≡ ended E way nonce a d
unfolding ended
ended_is E way nonce a d {s} {t} es et =
    let f = data_first (E (start_block nonce (length a) (length d))) in
    let ef : read_y s ≡ f = ap read_y es ∙ read_y-held f in
    ap (λ (u : mode.StateX). after_text E way u d) (ap read_x (et ∙ ap (λ g. held_x (after_data E g a)) ef)
    ∙ read_x-held (after_data E f a) (data-out E f a))

keyed-is : (k : ℕ) → enciphers (keyed k) ≡ encipher k
unfolding enciphers keyed
keyed-is k = fun_ext (enciphers-is k)

pub ran : (way : Bool) (key nonce a d room : List ℕ) (e : Keyed) {k r : Block} {s : StateY} {t u : StateX}
    {room' : List ℕ} → length key ≡ 16 → length nonce ≡ 12
    → k ≡ halves (loaded key 0 16) → e ≡ keyed (value k) → s ≡ started e nonce (length a) (length d)
    → t ≡ held_x (after_data (enciphers e) (read_y s) a)
    → u ≡ held_x (after_text (enciphers e) way (read_x t) d)
    → room' ≡ sets room 0 (after_text (enciphers e) way (read_x t) d).out → r ≡ tagged e u
    → (r ≡ halves (tag (gift key) way nonce a d)) × (room' ≡ sets room 0 (outputs (gift key) way nonce a d))
unfolding tag outputs held_x
ran way key nonce a d room e {k} {r} {s} {t} {u} {room'} lk ln ek ee es et eu er et' =
    let E = enciphers e in
    let eE : E ≡ gift key = ap enciphers ee ∙ keyed-is (value k) ∙ ap encipher (value-is ek ∙ loaded-all key lk) in
    let en : after_text E way (read_x t) d ≡ ended E way nonce a d =
    ended_is E way nonce a d (es ∙ ap (λ (n : List ℕ). held_y (data_first (E (start_block n (length a) (length d)))))
    (take_all 12 nonce (omega arith))) et in
    let ex : value u.x ≡ (ended E way nonce a d).X =
    ap (λ (z : StateX). value z.x) eu ∙ value-halves _ ∙ ap (λ (z : mode.StateX). z.X) en in (
      et' ∙ ap (λ (x : ℕ). halves (E (swapped x))) ex ∙ ap (λ F. halves (F (swapped (ended F way nonce a d).X))) eE,
      er ∙ ap (λ (z : mode.StateX). sets room 0 z.out) en ∙ ap (λ F. sets room 0 (ended F way nonce a d).out) eE,
    )

-- ---- the lengths that are not refused

pub record Allowed (i : Inputs) (tag room : List ℕ) : Type 0 where
  pub clear : Clear (refusals i tag room)
  pub key-16 : length i.key ≡ 16
  pub nonce-12 : length i.nonce ≡ 12
  pub ad-most : length i.«data» ≤ 65536
  pub text-most : length i.text ≤ 1048576
  pub tag-16 : length tag ≡ 16
  pub room_fits : length i.text ≤ length room

pub allowed : (i : Inputs) (tag room : List ℕ) → Clear (refusals i tag room) → Allowed i tag room
allowed i tag room (key, (nonce, («data», (text, (tag', (room', none)))))) =
    record {
      clear = (key, (nonce, («data», (text, (tag', (room', none))))));
      key-16 = eqb-true _ _ (not-false _ key);
      nonce-12 = eqb-true _ _ (not-false _ nonce);
      ad-most = ltb-false _ _ «data»;
      text-most = ltb-false _ _ text;
      tag-16 = eqb-true _ _ (not-false _ tag');
      room_fits = ltb-false _ _ room';
    }

-- ---- the lengths as the code judges them: n, of what it works on, and r, what it answers

abbrev pub weighed : Inputs → List ℕ → List ℕ → ℕ → ℕ
weighed i tag room n =
    number_of (rows (length i.key) (length i.nonce) (length i.«data») n (length tag) (length room))

module _ (i : Inputs) (tag room : List ℕ) {n : ℕ} (en : n ≡ length i.text) where
  judged : {r : ℕ} → r ≡ weighed i tag room n → r ≡ number_of (refusals i tag room)
  judged er = er ∙ ap (weighed i tag room) en

  pub not-refused : 0 ≡ weighed i tag room n → Allowed i tag room
  not-refused er = allowed i tag room (goes-on (refusals i tag room) (judged er) tt)

  module _ (cipher : List ℕ → ℕ → ℕ) {A : Type 0} (r : Result A Refusal) (er : told r ≡ weighed i tag room n)
      (is : IsErr r) where
    pub seal-refused : Sealing cipher (told r) i room tag room tag
    unfolding sealing
    seal-refused = handed-on r (refusals i tag room) (judged er) is _ _

    pub open-refused : Opening cipher (told r) i tag room room
    unfolding opening
    open-refused = handed-on r (refusals i tag room) (judged er) is _ _

-- ---- the entry points, over any cipher

module _ (cipher : List ℕ → ℕ → ℕ) (i : Inputs) where
  -- what was written to the front of a room that is long enough
  written : (way : Bool) (room : List ℕ) → length i.text ≤ length room
      → sets room 0 (output_of cipher way i) ≡ over (output_of cipher way i) room
  written way room fits =
      sets-front (output_of cipher way i) room
      (omega (arith, length-outputs (cipher i.key) way i.nonce i.«data» i.text))

  -- where no length is refused, sealing is done
  pub sealing-done : (tag room : List ℕ) → length i.key ≡ 16 → length i.nonce ≡ 12
      → length i.«data» ≤ 65536 → length i.text ≤ 1048576 → length tag ≡ 16 → length i.text ≤ length room
      → sealing cipher i room tag
      ≡ answered 0 (record { room = over (output_of cipher false i) room; tag = tag_of cipher false i })
  unfolding sealing
  sealing-done tag room k n a t g r =
      refuse-clear _ _ (refusals i tag room) (
        ap not (eq-eqb _ _ k),
        (
          ap not (eq-eqb _ _ n),
          (le-ltb _ _ a, (le-ltb _ _ t, (ap not (eq-eqb _ _ g), (le-ltb _ _ r, tt)))),
        ),
      )

  -- refused or not, it leaves as many bytes as it was lent
  pub length-sealed : (tag room : List ℕ) → let s = (sealing cipher i room tag).outcome in
      (length s.room ≡ length room) × (length s.tag ≡ length tag)
  unfolding sealing
  length-sealed tag room =
      answer-has _ _ (refusals i tag room)
      (λ (a : Answer Sealed). (length a.outcome.room ≡ length room) × (length a.outcome.tag ≡ length tag))
      tt (λ c. let l = allowed i tag room c in (
        length_over (output_of cipher false i) room
            (omega (
              arith,
              l.room_fits,
              length-outputs (cipher i.key) false i.nonce i.«data» i.text,
            )),
        length-bytes 16 _ ∙ sym l.tag-16,
      )) (λ n h. (refl, refl))

  -- done in room as long as the text, it leaves nothing of what the room held
  pub sealing-whole : (tag room : List ℕ) → (sealing cipher i room tag).number ≡ 0 → length room ≡ length i.text
      → sealing cipher i room tag ≡ answered 0 (record { room = output_of cipher false i; tag = tag_of cipher false i })
  unfolding sealing over
  sealing-whole tag room e l =
      let out = output_of cipher false i in
      let lo : length room ≤ length out =
      omega (arith, length-outputs (cipher i.key) false i.nonce i.«data» i.text) in
      (answer-done _ _ (refusals i tag room) tt e).1
      ∙ ap (λ (r : List ℕ). answered 0 (record { room = r; tag = tag_of cipher false i }))
      (ap (λ (r : List ℕ). out ++ r) (drop_of_length-le room {i = length out} lo) ∙ append-nil out)

  -- a call that is not refused by its lengths goes by the tag
  pub opening-by : (tag room : List ℕ) → Clear (refusals i tag room) → (t : Bool)
      → eqb (number tag) (number (tag_of cipher true i)) ≡ t
      → opening cipher i tag room ≡ cond t (answered 0 (over (output_of cipher true i) room))
      (answered 7 (over (replicate (length i.text) 0) room))
  unfolding opening
  opening-by tag room c true e = refuse-clear room _ (refusals i tag room) c ∙ rw e
  opening-by tag room c false e = refuse-clear room _ (refusals i tag room) c ∙ rw e

  module _ (tag₀ room : List ℕ) (l : Allowed i tag₀ room) where
    pub sealed-is : {t : Block} {room' tag' : List ℕ} → t ≡ halves
        (tag (cipher i.key) false i.nonce i.«data» i.text) → room' ≡ sets room 0 (output_of cipher false i)
        → tag' ≡ stored tag₀ 0 16 (value t) → Sealing cipher 0 i room tag₀ room' tag'
    unfolding sealing
    sealed-is {t} et er eg =
        ap₂ (λ (r g : List ℕ). answered 0 (record { room = r; tag = g })) (er ∙ written false room l.room_fits)
        (eg ∙ stored-all tag₀ (value t) l.tag-16 ∙ ap (bytes 16) (value-is et))
        ∙ sym (refuse-clear _ _ (refusals i tag₀ room) l.clear)

    module _ {t g : Block} {room₁ : List ℕ} (lo : t.lo < 2 ^ 64) (hi : t.hi < 2 ^ 64)
        (et : t ≡ halves (tag (cipher i.key) true i.nonce i.«data» i.text))
        (er : room₁ ≡ sets room 0 (output_of cipher true i)) (eg : g ≡ halves (loaded tag₀ 0 16)) where
      -- what is compared
      compared : eqb (value g) (value t) ≡ eqb (number tag₀) (number (tag_of cipher true i))
      compared =
          ap₂ eqb (value-is eg ∙ loaded-all tag₀ l.tag-16)
          (sym (ap (λ (x : ℕ). number (bytes 16 x)) (sym (value-is et)) ∙ number-bytes 16 (value t) (value-lt t lo hi)))

      text-there : room₁ ≡ over (output_of cipher true i) room
      text-there = er ∙ written true room l.room_fits

      pub opened-is : eqb (value g) (value t) ≡ true → Opening cipher 0 i tag₀ room room₁
      opened-is e = ap (answered 0) text-there ∙ sym (opening-by tag₀ room l.clear true (sym compared ∙ e))

      pub wrong-is : {n : ℕ} {room' : List ℕ} → n ≡ length i.text → eqb (value g) (value t) ≡ false
          → room' ≡ over (replicate n 0) room₁ → Opening cipher 7 i tag₀ room room'
      wrong-is en e ew =
          let n = length i.text in
          ap (answered 7) (ew ∙ ap₂ (λ (k : ℕ) (r : List ℕ). over (replicate k 0) r) en text-there
          ∙ over-over (replicate n 0) (output_of cipher true i) room
          (length-replicate n 0 ∙ sym (length-outputs (cipher i.key) true i.nonce i.«data» i.text)))
          ∙ sym (opening-by tag₀ room l.clear false (sym compared ∙ e))
