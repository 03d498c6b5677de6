-- A batch that is not refused, card by card.
use mathlib.Core.Path.{◌≡◌, refl, sym, ap, ap₂, subst⁻¹, ◌∙◌}
use mathlib.Core.Bool.{false}
use mathlib.Core.List.{List, [], ◌∷◌, ◌++◌}
use Prim.Native.Nat.{ℕ, zero, suc, ◌+◌, ◌*◌, ◌≤◌, ◌<◌}
use native.Mathlib.Omega.{arith}
use lib.ListN.{length, get_or, take, drop, replicate, length-drop}
use lib.Seq.{drop-drop, take_at, drop_at, length-take-le}
use Rattle.answers.specs.Answers.{Answer, answered}
use Rattle.lengths.specs.Lengths.{total, any_above, text_at}
use Rattle.lengths.proofs.Lengths.{none_of, text-behind}
use Rattle.hyena.specs.Entry as hyena
use Rattle.hyena.specs.Entry.{inputs, sealing, gift}
use Rattle.hyena.proofs.Entry.{sealing-done, length-sealed}
use Rattle.drawer.specs.declared.Drawer.{Drawer}
use Rattle.drawer.specs.Drawer.{for_nonce, remaining, moved, Handed, drawing}
use Rattle.drawer.specs.Sequence.{after}
use Rattle.drawer.proofs.Steps.{length-nonce}
use Rattle.drawer.proofs.Sequence.{first-handed, drawing-done}
use Rattle.batch.specs.Batch.{Sealed, singly}
use Rattle.batch.specs.Demands.{nonce_at, tag_at}

-- the drawer behind the last card, of any batch
pub next-is : (key «data» texts ns : List ℕ) (d : Drawer) (room tags : List ℕ)
    → (singly key «data» texts ns d room tags).next ≡ after (replicate (length ns) for_nonce) d
unfolding singly after
next-is key «data» texts [] d room tags = refl
next-is key «data» texts (n ∷ ns) d room tags =
    next-is key «data» (drop n texts) ns (drawing for_nonce d).outcome.next (drop n room) (drop 16 tags)

-- what is asked of a batch whose cards are sealed one after another
pub record Fits (key «data» texts ns : List ℕ) (d : Drawer) (room tags : List ℕ) : Type 0 where
  pub key-16 : length key ≡ 16
  pub data-most : length «data» ≤ 65536
  pub none-long : any_above 1048576 ns ≡ false
  pub texts-fit : total ns ≤ length texts
  pub room_fits : total ns ≤ length room
  pub tags-fit : 16 * length ns ≤ length tags
  pub draws-left : length ns ≤ remaining d

fits-behind : (key «data» texts : List ℕ) (n : ℕ) (ns : List ℕ) (d : Drawer) (room tags : List ℕ)
    → Fits key «data» texts (n ∷ ns) d room tags
    → Fits key «data» (drop n texts) ns (moved 1 d) (drop n room) (drop 16 tags)
unfolding total
fits-behind key «data» texts n ns d room tags f =
    record {
      key-16 = f.key-16;
      data-most = f.data-most;
      none-long = (none_of 1048576 n ns f.none-long).1;
      texts-fit = simp length-drop (omega (arith, f.texts-fit));
      room_fits = simp length-drop (omega (arith, f.room_fits));
      tags-fit = simp length-drop (omega (arith, f.tags-fit));
      draws-left = omega (arith, f.draws-left);
    }

-- card i is sealed singly with draw i, into its part of the room
abbrev pub Singly : (key «data» texts ns : List ℕ) → Drawer → (room tags : List ℕ) → ℕ → Sealed → Type 0
Singly key «data» texts ns d room tags i s =
    sealing gift (inputs key (nonce_at (length ns) d i) «data» (text_at ns texts i)) (text_at ns room i) (tag_at tags i)
    ≡ answered 0 (record { room = text_at ns s.room i; tag = tag_at s.tags i })

-- the tags behind the first
tag-behind : (tags : List ℕ) (i : ℕ) → tag_at tags (suc i) ≡ tag_at (drop 16 tags) i
tag-behind tags i =
    let e : 16 * suc i ≡ 16 + 16 * i = omega arith in
    ap (λ (k : ℕ). take 16 (drop k tags)) e ∙ ap (take 16) (sym (drop-drop (16 * i) 16 tags))

module _ (key «data» texts : List ℕ) (n : ℕ) (ns : List ℕ) (d : Drawer) (room tags : List ℕ) where
  -- the first card, and what comes of those behind it
  abbrev first : hyena.Sealed
  first =
      (sealing gift (inputs key (drawing for_nonce d).outcome.bytes «data» (take n texts)) (take n room) (take 16 tags)
      ).outcome

  abbrev behind : Sealed
  behind = singly key «data» (drop n texts) ns (drawing for_nonce d).outcome.next (drop n room) (drop 16 tags)

  length-first : n ≤ length room → length first.room ≡ n
  length-first h = (length-sealed gift _ _ _).0 ∙ length-take-le n room h

  module _ (f : Fits key «data» texts (n ∷ ns) d room tags) where
    at-texts : n ≤ length texts
    unfolding total
    at-texts = omega (arith, f.texts-fit)

    at_room : n ≤ length room
    unfolding total
    at_room = omega (arith, f.room_fits)

    left : 1 ≤ remaining d
    left = omega (arith, f.draws-left)

    length-tag : length first.tag ≡ 16
    length-tag = (length-sealed gift _ _ _).1 ∙ length-take-le 16 tags (omega (arith, f.tags-fit))

    first-singly : Singly key «data» texts (n ∷ ns) d room tags 0
        (singly key «data» texts (n ∷ ns) d room tags)
    unfolding singly total
    first-singly =
        let e : nonce_at (suc (length ns)) d 0 ≡ (drawing for_nonce d).outcome.bytes =
        ap (λ (l : List (List ℕ)). get_or l 0 []) (first-handed d left (replicate (length ns) for_nonce))
        ∙ sym (ap (λ (a : Answer Handed). a.outcome.bytes) (drawing-done d left)) in
        let ln : length (drawing for_nonce d).outcome.bytes ≡ 12 =
        ap (λ (a : Answer Handed). length a.outcome.bytes) (drawing-done d left) ∙ length-nonce d in
        let lt : length (take n texts) ≡ n = length-take-le n texts at-texts in
        ap (λ (k : List ℕ). sealing gift (inputs key k «data» (take n texts)) (take n room) (take 16 tags)) e
        ∙ ap (λ (a : Answer hyena.Sealed). answered a.number first)
        (sealing-done gift (inputs key (drawing for_nonce d).outcome.bytes «data» (take n texts)) (take 16 tags)
        (take n room) f.key-16 ln f.data-most (omega (arith, lt, (none_of 1048576 n ns f.none-long).0))
        (length-take-le 16 tags (omega (arith, f.tags-fit))) (omega (arith, lt, length-take-le n room at_room)))
        ∙ ap₂ (λ (r g : List ℕ). answered 0 (record { room = r; tag = g }))
        (sym (take_at first.room behind.room n (length-first at_room)))
        (sym (take_at first.tag behind.tags 16 length-tag))

    behind-singly : (i : ℕ)
        → Singly key «data» (drop n texts) ns (moved 1 d) (drop n room) (drop 16 tags) i
        (singly key «data» (drop n texts) ns (moved 1 d) (drop n room) (drop 16 tags))
        → Singly key «data» texts (n ∷ ns) d room tags (suc i) (singly key «data» texts (n ∷ ns) d room tags)
    unfolding singly
    behind-singly i k =
        let e : nonce_at (suc (length ns)) d (suc i) ≡ nonce_at (length ns) (moved 1 d) i =
        ap (λ (l : List (List ℕ)). get_or l (suc i) []) (first-handed d left (replicate (length ns) for_nonce)) in
        let er : text_at (n ∷ ns) (first.room ++ behind.room) (suc i) ≡ text_at ns behind.room i =
        text-behind n ns (first.room ++ behind.room) i
        ∙ ap (λ (l : List ℕ). text_at ns l i) (drop_at first.room behind.room n (length-first at_room)) in
        let eg : tag_at (first.tag ++ behind.tags) (suc i) ≡ tag_at behind.tags i =
        tag-behind (first.tag ++ behind.tags) i
        ∙ ap (λ (l : List ℕ). tag_at l i) (drop_at first.tag behind.tags 16 length-tag) in
        let k' : Singly key «data» (drop n texts) ns (moved 1 d) (drop n room) (drop 16 tags) i behind =
        subst⁻¹ (λ (x : Drawer). Singly key «data» (drop n texts) ns (moved 1 d) (drop n room) (drop 16 tags) i
        (singly key «data» (drop n texts) ns x (drop n room) (drop 16 tags)))
        (ap (λ (a : Answer Handed). a.outcome.next) (drawing-done d left)) k in
        ap₂ (λ (m t : List ℕ). sealing gift (inputs key m «data» t) (text_at (n ∷ ns) room (suc i))
        (tag_at tags (suc i))) e (text-behind n ns texts i)
        ∙ ap₂ (λ (r g : List ℕ). sealing gift
        (inputs key (nonce_at (length ns) (moved 1 d) i) «data» (text_at ns (drop n texts) i)) r g)
        (text-behind n ns room i) (tag-behind tags i)
        ∙ k'
        ∙ ap₂ (λ (r g : List ℕ). answered 0 (record { room = r; tag = g })) (sym er) (sym eg)

pub each-singly : (key «data» texts ns : List ℕ) (d : Drawer) (room tags : List ℕ) (i : ℕ)
    → Fits key «data» texts ns d room tags → i < length ns
    → Singly key «data» texts ns d room tags i (singly key «data» texts ns d room tags)
each-singly key «data» texts [] d room tags i f l = absurd (omega arith)
each-singly key «data» texts (n ∷ ns) d room tags zero f l = first-singly key «data» texts n ns d room tags f
each-singly key «data» texts (n ∷ ns) d room tags (suc i) f l =
    behind-singly key «data» texts n ns d room tags f i
    (each-singly key «data» (drop n texts) ns (moved 1 d) (drop n room) (drop 16 tags) i
    (fits-behind key «data» texts n ns d room tags f) (omega arith))

-- the rest of longer room
pub rest-kept : (key «data» texts ns : List ℕ) (d : Drawer) (room tags : List ℕ) → total ns ≤ length room
    → drop (total ns) (singly key «data» texts ns d room tags).room ≡ drop (total ns) room
unfolding singly total
rest-kept key «data» texts [] d room tags h = refl
rest-kept key «data» texts (n ∷ ns) d room tags h =
    let c = first key «data» texts n ns d room tags in
    let r = behind key «data» texts n ns d room tags in
    sym (drop-drop (total ns) n (c.room ++ r.room))
    ∙ ap (drop (total ns)) (drop_at c.room r.room n
    (length-first key «data» texts n ns d room tags (omega arith)))
    ∙ rest-kept key «data» (drop n texts) ns (drawing for_nonce d).outcome.next (drop n room) (drop 16 tags)
    (subst⁻¹ (λ (k : ℕ). total ns ≤ k) (length-drop n room) (omega arith))
    ∙ drop-drop (total ns) n room
