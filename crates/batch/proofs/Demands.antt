-- What K3 demands of a batch is so.
use mathlib.Core.Path.{◌≡◌, refl, sym, ap, subst, subst⁻¹, ◌∙◌}
use mathlib.Core.Bool.{false}
use mathlib.Core.List.{List, [], ◌++◌}
use Prim.Native.Nat.{ℕ, ◌+◌, ◌^◌, ◌≤◌, ◌<◌}
use native.Mathlib.Omega.{arith}
use lib.ListN.{length, get_or, take, drop, replicate, length-replicate, length-append, get_or-append}
use lib.Seq.{take-take, get_or-append-add}
use Rattle.words.specs.Bytes.{over}
use Rattle.answers.specs.Answers.{Answer, answered}
use Rattle.answers.proofs.Answers.{answer-has}
use Rattle.lengths.specs.Lengths.{text_at}
use Rattle.lengths.proofs.Lengths.{length-text}
use Rattle.hyena.specs.Entry as hyena
use Rattle.hyena.specs.Entry.{sealing, opening, output_of, tag_of, gift}
use Rattle.hyena.specs.Demands.{with_text}
use Rattle.hyena.proofs.Entry.{sealing-whole}
use Rattle.hyena.proofs.Demands.{gift-demands}
use Rattle.drawer.specs.declared.Drawer.{Drawer}
use Rattle.drawer.specs.Drawer.{Use, for_nonce, moved}
use Rattle.drawer.specs.Sequence.{handed_out, after}
use Rattle.drawer.proofs.Sequence.{handed-append, count-after, never-repeat, handed-out}
use Rattle.batch.specs.Batch.{Inputs, Sealed, refusals, batching}
use Rattle.batch.specs.Demands.{nonce_at, tag_at, card_at, with_texts, DoesNothing, Demands, Accepted, Unchanged}
use Rattle.batch.specs.Steps.{Allowed}
use Rattle.batch.proofs.Entry.{each_card, done-is}
use Rattle.batch.proofs.Cards.{next-is, Fits, each-singly, rest-kept}

pub does-nothing : DoesNothing
unfolding batching
does-nothing b room tags =
    answer-has _ _ (refusals b room tags)
    (λ (a : Answer Sealed). (a.number ≡ 0 → ⊥) → a.outcome ≡ record { room = room; tags = tags; next = b.drawer })
    tt (λ c h. absurd (h refl)) (λ n k h. refl)

-- ---- a batch that is not refused

-- ciphertext and tag of a text
abbrev of_text : hyena.Inputs → hyena.Sealed
of_text i = record { room = output_of gift false i; tag = tag_of gift false i }

module _ (b : Inputs) (room tags : List ℕ) (e : (batching b room tags).number ≡ 0) where
  -- what it answers
  abbrev all : Sealed
  all = each_card b room tags

  done : batching b room tags ≡ answered 0 all
  done = (done-is b room tags e).1

  allows : Allowed b room tags
  allows = (done-is b room tags e).0

  fits : Fits b.key b.«data» b.texts b.lengths b.drawer room tags
  fits =
      let l = allows in
      record {
        key-16 = l.key-16;
        data-most = l.data-most;
        none-long = l.none-long;
        texts-fit = omega (arith, l.whole);
        room_fits = omega (arith, l.whole, l.room_fits);
        tags-fit = omega (arith, l.tags-16);
        draws-left = l.draws-left;
      }

  module _ (i : ℕ) (h : i < length b.lengths) where
    singly-is : sealing gift (card_at b b.texts i) (text_at b.lengths room i) (tag_at tags i)
        ≡ answered 0 (record { room = text_at b.lengths all.room i; tag = tag_at all.tags i })
    singly-is = each-singly b.key b.«data» b.texts b.lengths b.drawer room tags i fits h

    length-card : length (text_at b.lengths b.texts i) ≡ get_or b.lengths i 0
    length-card = length-text b.lengths b.texts i fits.texts-fit h

    opens : (room' : List ℕ) → get_or b.lengths i 0 ≤ length room'
        → opening gift (card_at b all.room i) (tag_at all.tags i) room'
        ≡ answered 0 (over (text_at b.lengths b.texts i) room')
    opens room' l =
        let n = get_or b.lengths i 0 in
        let part = text_at b.lengths all.room i in
        let whole : take (length (text_at b.lengths b.texts i)) part ≡ part =
        ap (λ (k : ℕ). take k part) length-card ∙ take-take n n _ (omega arith) in
        let back : Answer hyena.Sealed → Type 0 = λ s.
        opening gift (with_text (card_at b b.texts i)
        (take (length (text_at b.lengths b.texts i)) s.outcome.room)) s.outcome.tag room'
        ≡ answered 0 (over (text_at b.lengths b.texts i) room') in
        let o : back (answered 0 (record { room = part; tag = tag_at all.tags i })) =
        subst back singly-is
        (gift-demands.opens-sealed (card_at b b.texts i) (text_at b.lengths room i) (tag_at tags i) room'
        (ap (λ (s : Answer hyena.Sealed). s.number) singly-is) (omega (arith, length-card, l))) in
        subst (λ (c : List ℕ). opening gift (with_text (card_at b b.texts i) c) (tag_at all.tags i) room'
        ≡ answered 0 (over (text_at b.lengths b.texts i) room')) whole o

    -- what card i is, whatever room and tags held
    card-is : let s = (batching b room tags).outcome in
        answered {A = hyena.Sealed} 0 (record { room = text_at b.lengths s.room i; tag = tag_at s.tags i })
        ≡ answered 0 (of_text (card_at b b.texts i))
    card-is =
        ap (λ (a : Answer Sealed). answered {A = hyena.Sealed} 0
        (record { room = text_at b.lengths a.outcome.room i; tag = tag_at a.outcome.tags i })) done
        ∙ sym singly-is
        ∙ sealing-whole gift (card_at b b.texts i) (tag_at tags i) (text_at b.lengths room i)
        (ap (λ (s : Answer hyena.Sealed). s.number) singly-is)
        (length-text b.lengths room i fits.room_fits h ∙ sym length-card)

  -- ---- the draws

  abbrev draws : List Use
  draws = replicate (length b.lengths) for_nonce

  small : b.drawer.count < 2 ^ 64
  small = omega (arith, allows.draws-left, allows.some)

  all-drawn : length (handed_out draws b.drawer) ≡ length b.lengths
  all-drawn =
      omega (
        arith,
        handed-out b.drawer small draws,
        length-replicate (length b.lengths) for_nonce,
        allows.draws-left,
      )

  next : all.next ≡ after draws b.drawer
  next = next-is b.key b.«data» b.texts b.lengths b.drawer room tags

  moves : all.next ≡ moved (length b.lengths) b.drawer
  moves = next ∙ count-after b.drawer small draws ∙ ap (λ (n : ℕ). moved n b.drawer) all-drawn

  differ : (i j : ℕ) → i < length b.lengths → j < length b.lengths
      → nonce_at (length b.lengths) b.drawer i ≡ nonce_at (length b.lengths) b.drawer j → i ≡ j
  differ i j hi hj =
      never-repeat b.drawer small draws i j (omega (arith, all-drawn)) (omega (arith, all-drawn))

  -- these draws and those behind them are one list of draws
  later : (us : List Use) (i j : ℕ) → i < length b.lengths → j < length (handed_out us all.next)
      → nonce_at (length b.lengths) b.drawer i ≡ get_or (handed_out us all.next) j [] → ⊥
  later us i j hi hj e =
      let first = handed_out draws b.drawer in
      let rest = handed_out us all.next in
      let whole : handed_out (draws ++ us) b.drawer ≡ first ++ rest =
      handed-append draws us b.drawer ∙ ap (λ (d : Drawer). first ++ handed_out us d) (sym next) in
      let l : length (handed_out (draws ++ us) b.drawer) ≡ length first + length rest =
      ap length whole ∙ length-append first rest in
      let at_i : get_or (handed_out (draws ++ us) b.drawer) i [] ≡ get_or first i [] =
      ap (λ (s : List (List ℕ)). get_or s i []) whole ∙ get_or-append first rest [] i (omega (arith, all-drawn)) in
      let at_j : get_or (handed_out (draws ++ us) b.drawer) (length first + j) [] ≡ get_or rest j [] =
      ap (λ (s : List (List ℕ)). get_or s (length first + j) []) whole ∙ get_or-append-add first rest j [] in
      let same_place : i ≡ length first + j =
      never-repeat b.drawer small (draws ++ us) i (length first + j) (omega (arith, l, all-drawn))
      (omega (arith, l)) (at_i ∙ e ∙ sym at_j) in
      omega (arith, same_place, all-drawn)

pub accepted : Accepted
accepted b room tags e =
    subst⁻¹ (λ (a : Answer Sealed). Demands b room tags a.outcome) (done b room tags e)
    (record {
      seals-singly = singly-is b room tags e;
      moves-on = moves b room tags e;
      keeps-rest =
          subst (λ (n : ℕ). drop n (each_card b room tags).room ≡ drop n room) (allows b room tags e).whole
          (rest-kept b.key b.«data» b.texts b.lengths b.drawer room tags
          (fits b room tags e).room_fits);
      opens-again = opens b room tags e;
      nonces-differ = differ b room tags e;
      none-later = later b room tags e;
    })

-- ---- two batches

pub unchanged : Unchanged
unchanged b texts room tags room' tags' e e' i h t =
    let same-card =
    card-is b room tags e i h
    ∙ ap (λ (x : List ℕ). answered 0 (of_text (with_text (card_at b b.texts i) x))) t
    ∙ sym (card-is (with_texts b texts) room' tags' e' i h) in (
      ap (λ (a : Answer hyena.Sealed). a.outcome.room) same-card,
      ap (λ (a : Answer hyena.Sealed). a.outcome.tag) same-card,
    )
