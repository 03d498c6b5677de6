-- Hex: what the code makes of it, and that what is written is read back.
use mathlib.Core.Path.{◌≡◌, refl, sym, ap, ap₂, ◌∙◌}
use mathlib.Core.Bool.{Bool, true, false, cond}
use mathlib.Core.List.{List, [], ◌∷◌, ◌++◌, append_assoc}
use Prim.Native.Nat.{ℕ, suc, ◌+◌, ◌-◌, ◌*◌, ◌/◌, ◌%◌, ◌≤◌, ◌<◌}
use native.Mathlib.Nat.{zero-add, add-zero}
use native.Mathlib.Numerals.{add-one}
use native.Mathlib.Omega.{arith}
use lib.Dec.{ltb}
use borrow.Rule.Slice.PartMut.{put_mid}
use lib.ListN.{length, take, drop, get_or, set, length-set, drop_of_length-le}
use lib.Seq.{sets, sets-eq, drop-drop, drop-cons}
use borrow.Author.Tests.{lt-ltb, le-ltb}
use Rattle.words.specs.Bytes.{Bytes, over}
use Rattle.answers.specs.Answers.{Answer, answered}
use Rattle.words.proofs.Lists.{sets-append}
use Rattle.words.proofs.Over.{sets-front}
use Rattle.std.specs.Prelude.{None, Result, Ok, Err}
use Rattle.answers.specs.declared.Refusal.{Refusal}
use Rattle.answers.specs.declared.Refusal.TheVariants.{RoomLength}
use Rattle.hexadecimal.specs.declared.Hex.{Hex}
use Rattle.hexadecimal.specs.declared.Meaning.TheVariants.{Digit}
use Rattle.hexadecimal.specs.Hex.{glyph, digits_of, written, spelling, Spelling, word_of, showing, Showing, meaning}
use Rattle.hexadecimal.specs.Hex.{Reading, start, taken_byte, taken_in}

-- ---- writing

pub length-written : (s : List ℕ) → length (written s) ≡ 2 * length s
unfolding written digits_of
length-written [] = refl
length-written (b ∷ s) = omega (arith, length-written s)

-- one step of the loop
pub write-next : (s room room' l p : List ℕ) (i : ℕ) → i < length s → 2 * length s ≤ length room
    → p ≡ digits_of (get_or s i 0) → room' ≡ put_mid (2 * i) (2 * i + 2 - 2 * i) room p
    → sets room (2 * i) (written (drop i s)) ≡ l
    → sets room' (2 * (i + 1)) (written (drop (i + 1) s)) ≡ l
unfolding written digits_of
write-next s room room' l p i h k ep er inv =
    let two : 2 * i + 2 - 2 * i ≡ 2 = omega arith in
    let e : room' ≡ sets room (2 * i) (digits_of (get_or s i 0)) =
    er ∙ rw (
      two,
      ep,
      drop-drop 2 (2 * i) room,
      ← append_assoc (take (2 * i) room) (digits_of (get_or s i 0))
          (drop (2 * i + 2) room),
    ) (sym (sets-eq (digits_of (get_or s i 0)) room (2 * i) (omega arith))) in
    let at : 2 * (i + 1) ≡ 2 * i + 2 = omega arith in
    rw (at, add-one, e) (sets-append room (2 * i) (digits_of (get_or s i 0)) (written (drop (suc i) s))
    ∙ ap (λ (t : List ℕ). sets room (2 * i) (written t)) (sym (drop-cons s i 0 h)) ∙ inv)

-- after it
pub write-end : (s room l : List ℕ) (i : ℕ) → length s ≤ i → sets room (2 * i) (written (drop i s)) ≡ l → room ≡ l
unfolding written
write-end s room l i h inv =
    ap (λ (t : List ℕ). sets room (2 * i) (written t)) (sym (drop_of_length-le s {i = i} h)) ∙ inv

module _ (s room : List ℕ) where
  pub write-first : length s ≤ length room / 2 → sets room 0 (written s) ≡ over (written s) room
  write-first h = sets-front (written s) room (omega (arith, length-written s))

  pub spell-refused : {n : ℕ} → n ≡ 6 → length room / 2 < length s → Spelling n s room room
  unfolding spelling
  spell-refused e h = rw (e, lt-ltb (length room) (2 * length s) (omega arith))

  pub spell-done : {room' : List ℕ} → length s ≤ length room / 2 → room' ≡ over (written s) room
      → Spelling 0 s room room'
  unfolding spelling
  spell-done h e = rw (e, le-ltb (length room) (2 * length s) (omega arith))

-- ---- a word

pub dash-none : (room : List ℕ) → length room ≡ 0 → Showing (Err RoomLength) [] room room
unfolding showing word_of
dash-none room h = rw (lt-ltb (length room) 1 (omega arith))

pub dash-one : (room : List ℕ) → (length room ≡ 0 → ⊥) → Showing (Ok 1) [] room (set room 0 45)
unfolding showing word_of
dash-one room h =
    rw (le-ltb (length room) 1 (omega arith))
    (ap (λ (l : List ℕ). (Ok 1, l)) (sets-front (45 ∷ []) room (omega arith)))

pub word_none : (s room : List ℕ) {r : Result ℕ Refusal} {room' : List ℕ} → length s ≡ 0 → Showing r [] room room'
    → Showing r s room room'
word_none [] room h e = e
word_none (b ∷ s) room h e = absurd (omega arith)

some_word : (s : List ℕ) → (length s ≡ 0 → ⊥) → word_of s ≡ written s
unfolding word_of
some_word [] h = absurd (h refl)
some_word (b ∷ s) h = refl

module _ (s room : List ℕ) (h : length s ≡ 0 → ⊥) where
  shows : showing s room
      ≡ cond (ltb (length room) (2 * length s)) (Err RoomLength, room) (Ok (2 * length s), over (written s) room)
  unfolding showing
  shows = rw (some_word s h, length-written s)

  pub word-refused : {room' : List ℕ} → Spelling 6 s room room' → Showing (Err RoomLength) s room room'
  unfolding spelling
  word-refused {room' = room'} e = by (ltb (length room) (2 * length s)) (over (written s) room) e ∙ sym shows
    where
      by : (u : Bool) (y : List ℕ) → answered 6 room' ≡ cond u (answered 6 room) (answered 0 y)
          → ◌≡◌ {A = Result ℕ Refusal × List ℕ} (Err RoomLength, room')
          (cond u (Err RoomLength, room) (Ok (2 * length s), y))
      by true y q = ap (λ (a : Answer (List ℕ)). (Err RoomLength, a.outcome)) q
      by false y q = absurd (omega (arith, ap (λ (a : Answer (List ℕ)). a.number) q))

  pub word-is : {room' : List ℕ} → Spelling 0 s room room' → Showing (Ok (2 * length s)) s room room'
  unfolding spelling
  word-is {room' = room'} e = by (ltb (length room) (2 * length s)) (over (written s) room) e ∙ sym shows
    where
      by : (u : Bool) (y : List ℕ) → answered 0 room' ≡ cond u (answered 6 room) (answered 0 y)
          → ◌≡◌ {A = Result ℕ Refusal × List ℕ} (Ok (2 * length s), room')
          (cond u (Err RoomLength, room) (Ok (2 * length s), y))
      by true y q = absurd (omega (arith, ap (λ (a : Answer (List ℕ)). a.number) q))
      by false y q = ap (λ (a : Answer (List ℕ)). (Ok (2 * length s), a.outcome)) q

-- ---- reading

-- a digit is below 16
pub digit_small : (b d : ℕ) → Digit d ≡ meaning b → d < 16
unfolding meaning
digit_small b d e = grind arith

-- one step of the loop
pub read_next : (text : List ℕ) (i : ℕ) (r r' l : Reading) → i < length text → r' ≡ taken_byte (get_or text i 0) r
    → taken_in (drop i text) r ≡ l → taken_in (drop (i + 1) text) r' ≡ l
unfolding taken_in
read_next text i r r' l h e inv = rw (add-one, e) (ap (λ (t : List ℕ). taken_in t r) (sym (drop-cons text i 0 h)) ∙ inv)

-- after it
pub read-end : (text : List ℕ) (i : ℕ) (r l : Reading) → length text ≤ i → taken_in (drop i text) r ≡ l → r ≡ l
unfolding taken_in
read-end text i r l h inv = ap (λ (t : List ℕ). taken_in t r) (sym (drop_of_length-le text {i = i} h)) ∙ inv

-- cut anywhere, the pieces one after another are read as the whole
pub taken_in-cut : (s t : List ℕ) (r : Reading) → taken_in (s ++ t) r ≡ taken_in t (taken_in s r)
unfolding taken_in
taken_in-cut [] t r = refl
taken_in-cut (b ∷ s) t r = taken_in-cut s t (taken_byte b r)

-- ---- what is written is read back

glyph-means : (d : ℕ) → d < 16 → meaning (glyph d) ≡ Digit d
unfolding meaning glyph
glyph-means d h = grind arith

-- good so far, with n bytes in the room
abbrev at_byte : ℕ → Hex
at_byte n = record { good = true; high = None; len = n }

-- the digits of one byte
byte-back : (b n : ℕ) (room : List ℕ) → b < 256 → n < length room
    → taken_byte (glyph (b % 16)) (taken_byte (glyph (b / 16)) (record { hex = at_byte n; room = room }))
    ≡ record { hex = at_byte (n + 1); room = set room n b }
unfolding taken_byte
byte-back b n room h k =
    let v : b / 16 % 16 * 16 + b % 16 ≡ b = omega arith in
    rw (glyph-means (b / 16) (omega arith), glyph-means (b % 16) (omega arith), lt-ltb n (length room) k, v) refl

pub reading-written : (s room : List ℕ) (n : ℕ) → Bytes s → n + length s ≤ length room
    → taken_in (written s) (record { hex = at_byte n; room = room })
    ≡ record { hex = at_byte (n + length s); room = sets room n s }
unfolding taken_in written digits_of
reading-written [] room n h k = rw add-zero
reading-written (b ∷ s) room n h k =
    let l : length (set room n b) ≡ length room = length-set room n b in
    let e : n + suc (length s) ≡ n + 1 + length s = omega arith in
    rw (byte-back b n room (h 0) (omega arith), e)
    (reading-written s (set room n b) (n + 1) (λ j. h (suc j)) (omega arith)
    ∙ ap (λ (i : ℕ). record { hex = at_byte (n + 1 + length s); room = sets (set room n b) i s }) (add-one n))

-- from the start: all of it is in front of the room, and nothing waits
pub read_back : (s room : List ℕ) → Bytes s → length s ≤ length room
    → taken_in (written s) (record { hex = start; room = room })
    ≡ record { hex = at_byte (length s); room = over s room }
read_back s room h k =
    reading-written s room 0 h (omega arith)
    ∙ ap₂ (λ (n : ℕ) (l : List ℕ). record { hex = at_byte n; room = l }) (zero-add (length s)) (sets-front s room k)
