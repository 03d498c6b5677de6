-- Bytes written to the front of a room, of which the rest keeps its bytes.
use mathlib.Core.Path.{◌≡◌, refl, sym, ap, ap₂, ◌∙◌}
use mathlib.Core.List.{List, [], ◌++◌, append-nil, append_assoc}
use Prim.Native.Nat.{ℕ, ◌+◌, ◌-◌, ◌≤◌}
use native.Mathlib.Omega.{arith}
use lib.ListN.{length, take, drop, length-drop, length-append, drop_of_length-le}
use lib.Seq.{sets, sets-eq, take_all, take-append_seam, drop-append-add, drop-drop, drop_at}
use borrow.Rule.Slice.PartMut.{put_mid}
use Rattle.words.specs.Bytes.{over}

pub over_none : (room : List ℕ) → over [] room ≡ room
unfolding over
over_none room = refl

pub length_over : (out room : List ℕ) → length out ≤ length room → length (over out room) ≡ length room
unfolding over
length_over out room h = rw (length-append, length-drop) (omega arith)

-- what was written
pub take-over : (out room : List ℕ) → take (length out) (over out room) ≡ out
unfolding over
take-over out room = take-append_seam out (drop (length out) room)

-- more of it, written behind
pub over-next : (out next room : List ℕ) → length out + length next ≤ length room
    → sets (over out room) (length out) next ≡ over (out ++ next) room
unfolding over
over-next out next room h =
    let l : length (over out room) ≡ length room = length_over out room (omega arith) in
    sets-eq next (over out room) (length out) (omega arith)
    ∙ ap₂ (λ (p q : List ℕ). p ++ next ++ q) (take-append_seam out (drop (length out) room))
    (drop-append-add out (drop (length out) room) (length next) ∙ drop-drop (length next) (length out) room
    ∙ ap (λ (n : ℕ). drop n room) (sym (length-append out next)))

-- stores from the front
pub sets-front : (out room : List ℕ) → length out ≤ length room → sets room 0 out ≡ over out room
sets-front out room h = ap (λ (l : List ℕ). sets l 0 out) (sym (over_none room)) ∙ over-next [] out room (omega arith)

-- written over
pub over-over : (out old room : List ℕ) → length out ≡ length old → over out (over old room) ≡ over out room
unfolding over
over-over out old room e =
    ap (λ (r : List ℕ). out ++ r) (drop_at old (drop (length old) room) (length out) (sym e)
    ∙ ap (λ (n : ℕ). drop n room) (sym e))

module _ (out room : List ℕ) (n : ℕ) (e : length out ≡ n) (fits : n ≤ length room) where
  -- more of it, written to the part of the room behind the first n bytes, which is lent
  pub part-next : (next r p : List ℕ) → r ≡ over out room → p ≡ over next (take (length r - n) (drop n r))
      → put_mid n (length r - n) r p ≡ over (out ++ next) room
  unfolding over
  part-next next r p er ep =
      let lr : length r ≡ length room = ap length er ∙ length_over out room (omega arith) in
      let td : take n r ≡ out = ap₂ take (sym e) er ∙ take-append_seam out (drop (length out) room) in
      let dd : drop n r ≡ drop n room =
      ap₂ drop (sym e) er ∙ drop_at out (drop (length out) room) (length out) refl ∙ ap (λ (k : ℕ). drop k room) e in
      let whole : take (length r - n) (drop n r) ≡ drop n room =
      take_all (length r - n) (drop n r) (simp length-drop (omega arith)) ∙ dd in
      let none : drop (length r - n) (drop n r) ≡ [] =
      drop_of_length-le (drop n r) {i = length r - n} (simp length-drop (omega arith)) in
      let ep' : p ≡ next ++ drop (length next) (drop n room) = ep ∙ ap (over next) whole in
      rw (none, append-nil, td, ep', drop-drop)
      (sym (append_assoc out next (drop (n + length next) room))
      ∙ ap (λ (k : ℕ). (out ++ next) ++ drop k room)
      (sym (length-append out next ∙ ap (λ (k : ℕ). k + length next) e)))
