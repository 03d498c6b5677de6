-- What the code makes, from what its calls ensure.
use mathlib.Core.Path.{◌≡◌, sym, ap, ap₂, ◌∙◌}
use mathlib.Core.List.{List, ◌++◌, append_assoc}
use Prim.Native.Nat.{ℕ, suc, ◌+◌, ◌-◌, ◌*◌, ◌≤◌, ◌<◌}
use native.Mathlib.Omega.{arith}
use lib.ListN.{length, get_or, take, drop, length-append, take-append-drop, drop_of_length-le}
use lib.Seq.{drop-cons, drop-drop, take_at, drop_at, length-take-le}
use borrow.Rule.Slice.PartMut.{put_mid, Post-is}
use Rattle.words.specs.Block.{part}
use Rattle.words.proofs.Lists.{length_part}
use Rattle.answers.specs.Answers.{Answer}
use Rattle.hyena.specs.Entry as hyena
use Rattle.hyena.specs.Entry.{inputs, sealing, Sealing, gift}
use Rattle.hyena.proofs.Entry.{length-sealed, sealing-done}
use Rattle.drawer.specs.declared.Drawer.{Drawer}
use Rattle.drawer.specs.Drawer.{for_nonce, remaining, moved, Handed, drawing, Drawing}
use Rattle.drawer.proofs.Sequence.{drawing-done}
use Rattle.drawer.proofs.Steps.{length-nonce}
use Rattle.batch.specs.Batch.{Sealed, singly}
use Rattle.batch.specs.Steps.{placed, one_card, after_card, from_card}

-- ---- room and tags

module _ (s : List ℕ) (at n : ℕ) (t : List ℕ) where
  -- a part that was lent is back
  placed-is : put_mid at (at + n - at) s t ≡ placed s at n t
  placed-is =
      ap (λ (r : List ℕ). take at s ++ (t ++ r)) (Post-is at (at + n) s (omega arith))
      ∙ sym (append_assoc (take at s) t (drop (at + n) s))

  module _ (h : at + n ≤ length s) (l : length t ≡ n) where
    length_before : length (take at s ++ t) ≡ at + n
    length_before = length-append (take at s) t ∙ ap₂ ◌+◌ (length-take-le at s (omega arith)) l

    -- what lies before its end, and behind
    take-placed : take (at + n) (placed s at n t) ≡ take at s ++ t
    take-placed = take_at (take at s ++ t) (drop (at + n) s) (at + n) length_before

    drop-placed : drop (at + n) (placed s at n t) ≡ drop (at + n) s
    drop-placed = drop_at (take at s ++ t) (drop (at + n) s) (at + n) length_before

-- ---- a card

-- where a draw is left it is done, and the next drawer has one fewer
module _ (d : Drawer) (h : 1 ≤ remaining d) where
  pub draw-done : {m : ℕ} {nonce : List ℕ} {next : Drawer} → Drawing for_nonce m d nonce next → m ≡ 0
  draw-done e = ap (λ (a : Answer Handed). a.number) (e ∙ drawing-done d h)

  pub one-fewer : remaining (drawing for_nonce d).outcome.next + 1 ≡ remaining d
  one-fewer =
      let e : (drawing for_nonce d).outcome.next ≡ moved 1 d =
      ap (λ (a : Answer Handed). a.outcome.next) (drawing-done d h) in
      rw e (omega arith)

  pub length-drawn : {nonce : List ℕ} {next : Drawer} → Drawing for_nonce 0 d nonce next → length nonce ≡ 12
  length-drawn e =
      ap (λ (a : Answer Handed). length a.outcome.bytes) (e ∙ drawing-done d h) ∙ length-nonce d

module _ (key «data» text : List ℕ) (d : Drawer) (room tag : List ℕ) {r : ℕ} {nonce p q : List ℕ} {next : Drawer}
    (ed : Drawing for_nonce 0 d nonce next) (es : Sealing gift r (inputs key nonce «data» text) room tag p q) where
  pub seal-done : length key ≡ 16 → length «data» ≤ 65536 → length text ≤ 1048576 → 1 ≤ remaining d
      → length room ≡ length text → length tag ≡ 16
      → r ≡ 0
  seal-done hk ha ht hd hr hg =
      ap (λ (a : Answer hyena.Sealed). a.number)
      (es ∙ sealing-done gift (inputs key nonce «data» text) tag room hk (length-drawn d hd ed) ha ht hg (omega arith))

  pub card-is : ◌≡◌ {A = Sealed} (record { room = p; tags = q; next = next }) (one_card key «data» text d room tag)
  card-is =
      let by-draw : Answer Handed → Sealed = λ a.
      let c = (sealing gift (inputs key a.outcome.bytes «data» text) room tag).outcome in
      record { room = c.room; tags = c.tag; next = a.outcome.next } in
      ap (λ (a : Answer hyena.Sealed). record { room = a.outcome.room; tags = a.outcome.tag; next = next }) es
      ∙ ap by-draw ed

-- its parts of texts, room and tags are as long as they are to be
pub card-asks : (texts : List ℕ) (at n i : ℕ) (room tags : List ℕ) → at + n ≤ length texts → at + n ≤ length room
    → 16 * i + 16 ≤ length tags
    → (length (take (at + n - at) (drop at texts)) ≡ n)
    × (length (take (at + n - at) (drop at room)) ≡ length (take (at + n - at) (drop at texts)))
    × (length (take (16 * i + 16 - 16 * i) (drop (16 * i) tags)) ≡ 16)
card-asks texts at n i room tags ht hr hg =
    let en : at + n - at ≡ n = omega arith in
    let et : 16 * i + 16 - 16 * i ≡ 16 = omega arith in
    let lt = length_part texts at n (omega arith) in
    rw (en, et) (lt, length_part room at n (omega arith) ∙ sym lt, length_part tags (16 * i) 16 (omega arith))

-- it is sealed into its parts of room and tags
pub card-placed : (key «data» texts : List ℕ) (i at n : ℕ) (room tags : List ℕ) (d : Drawer) {p q : List ℕ}
    {next : Drawer}
    → ◌≡◌ {A = Sealed} (record { room = p; tags = q; next = next })
    (one_card key «data» (take (at + n - at) (drop at texts)) d (take (at + n - at) (drop at room))
    (take (16 * i + 16 - 16 * i) (drop (16 * i) tags)))
    → ◌≡◌ {A = Sealed} (record {
      room = put_mid at (at + n - at) room p;
      tags = put_mid (16 * i) (16 * i + 16 - 16 * i) tags q;
      next = next;
    }) (after_card key «data» texts i at n (record { room = room; tags = tags; next = d }))
card-placed key «data» texts i at n room tags d {p} {q} {next} e =
    let en : at + n - at ≡ n = omega arith in
    let et : 16 * i + 16 - 16 * i ≡ 16 = omega arith in
    let e' = e ∙ ap₂ (λ (k l : ℕ). one_card key «data» (take k (drop at texts)) d (take k (drop at room))
    (take l (drop (16 * i) tags))) en et in
    ap₂ (λ (c g : List ℕ). record { room = c; tags = g; next = next }) (placed-is room at n p)
    (placed-is tags (16 * i) 16 q)
    ∙ ap (λ (s : Sealed). record {
      room = placed room at n s.room;
      tags = placed tags (16 * i) 16 s.tags;
      next = s.next;
    }) e'

-- ---- one card after another

module _ (key «data» texts lengths : List ℕ) (s : Sealed) where
  pub from_last : (i at : ℕ) → length lengths ≤ i → from_card key «data» texts lengths i at s ≡ s
  unfolding singly
  from_last i at h =
      ap (λ (l : List ℕ).
      let r = singly key «data» (drop at texts) l s.next (drop at s.room) (drop (16 * i) s.tags) in
      record { room = take at s.room ++ r.room; tags = take (16 * i) s.tags ++ r.tags; next = r.next })
      (drop_of_length-le lengths {i = i} h)
      ∙ ap₂ (λ (a b : List ℕ). record { room = a; tags = b; next = s.next }) (take-append-drop at s.room)
      (take-append-drop (16 * i) s.tags)

module _ (key «data» texts lengths : List ℕ) (i at : ℕ) (s : Sealed) (hi : i < length lengths) where
  abbrev n : ℕ
  n = get_or lengths i 0

  abbrev sealed : Sealed
  sealed = after_card key «data» texts i at n s

  -- the card, and those behind it
  abbrev card : hyena.Sealed
  card = (sealing gift (inputs key (drawing for_nonce s.next).outcome.bytes «data» (part texts at n))
      (part s.room at n) (part s.tags (16 * i) 16)).outcome

  abbrev behind : List ℕ → List ℕ → List ℕ → Sealed
  behind from room tags = singly key «data» from (drop (suc i) lengths) sealed.next room tags

  abbrev joined : List ℕ → List ℕ → Sealed → Sealed
  joined room tags rest = record { room = room ++ rest.room; tags = tags ++ rest.tags; next = rest.next }

  -- the same, from where the card ends
  abbrev rest : List ℕ → List ℕ → Sealed
  rest room tags = behind (drop (at + n) texts) room tags

  first_of : from_card key «data» texts lengths i at s
      ≡ joined (take at s.room) (take (16 * i) s.tags)
      (joined card.room card.tag (rest (drop (at + n) s.room) (drop (16 * i + 16) s.tags)))
  unfolding singly
  first_of =
      let all : Sealed → Sealed = joined (take at s.room) (take (16 * i) s.tags) in
      let more : Sealed → Sealed = λ r. all (joined card.room card.tag r) in
      ap (λ (l : List ℕ). all (singly key «data» (drop at texts) l s.next (drop at s.room)
      (drop (16 * i) s.tags))) (drop-cons lengths i 0 hi)
      ∙ ap (λ (t : List ℕ). more (behind t (drop n (drop at s.room)) (drop 16 (drop (16 * i) s.tags))))
      (drop-drop n at texts)
      ∙ ap₂ (λ (r t : List ℕ). more (rest r t)) (drop-drop n at s.room) (drop-drop 16 (16 * i) s.tags)

  turn : at + n ≤ length s.room → 16 * i + 16 ≤ length s.tags
      → from_card key «data» texts lengths (i + 1) (at + n) sealed ≡ from_card key «data» texts lengths i at s
  turn hr ht =
      let lr : length card.room ≡ n =
      (length-sealed gift _ _ _).0 ∙ length_part s.room at n (omega arith) in
      let lt : length card.tag ≡ 16 =
      (length-sealed gift _ _ _).1 ∙ length_part s.tags (16 * i) 16 (omega arith) in
      let e : 16 * (i + 1) ≡ 16 * i + 16 = omega arith in
      let e₁ : i + 1 ≡ suc i = omega arith in
      let r = rest (drop (at + n) s.room) (drop (16 * i + 16) s.tags) in
      ap₂ (λ (j k : ℕ). joined (take (at + n) sealed.room) (take k sealed.tags)
      (singly key «data» (drop (at + n) texts) (drop j lengths) sealed.next (drop (at + n) sealed.room)
      (drop k sealed.tags))) e₁ e
      ∙ ap₂ (λ (a b : List ℕ). joined a b (rest (drop (at + n) sealed.room) (drop (16 * i + 16) sealed.tags)))
      (take-placed s.room at n card.room hr lr) (take-placed s.tags (16 * i) 16 card.tag ht lt)
      ∙ ap₂ (λ (a b : List ℕ). joined (take at s.room ++ card.room) (take (16 * i) s.tags ++ card.tag)
      (rest a b)) (drop-placed s.room at n card.room hr lr)
      (drop-placed s.tags (16 * i) 16 card.tag ht lt)
      ∙ ap₂ (λ (a b : List ℕ). record { room = a; tags = b; next = r.next })
      (append_assoc (take at s.room) card.room r.room)
      (append_assoc (take (16 * i) s.tags) card.tag r.tags)
      ∙ sym first_of

  pub goes_on : {s' t : Sealed} → s' ≡ sealed → at + n ≤ length s.room → 16 * i + 16 ≤ length s.tags
      → from_card key «data» texts lengths i at s ≡ t
      → from_card key «data» texts lengths (i + 1) (at + n) s' ≡ t
  goes_on e hr ht inv = ap (from_card key «data» texts lengths (i + 1) (at + n)) e ∙ turn hr ht ∙ inv
