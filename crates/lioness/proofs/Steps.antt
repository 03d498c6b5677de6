-- What the code's steps make, from what their calls ensure.
use mathlib.Core.Path.{◌≡◌, sym, ap, ap₂, ◌∙◌}
use mathlib.Core.List.{List, ◌++◌, append-nil}
use Prim.Native.Nat.{ℕ, ◌+◌, ◌-◌, ◌*◌, ◌/◌, ◌%◌, ◌^◌, ◌≤◌, ◌<◌}
use native.Mathlib.Nat.{zero-add}
use native.Mathlib.Numerals.{add-one}
use native.Mathlib.Omega.{arith}
use lib.ListN.{length, get_or, take, drop, replicate, length-drop, length-append, drop_of_length-le}
use lib.Seq.{take_all, length-take-le, drop-cons}
use borrow.Rule.Slice.PartMut.{put_mid}
use borrow.Author.Tests.{eqb-true, not-false, ltb-false, eq-eqb, ne_eqb}
use Rattle.words.specs.Block.{part}
use Rattle.words.specs.Bytes.{plus, plus_at}
use Rattle.answers.specs.Answers.{Answer, answered}
use Rattle.answers.proofs.Answers.{Clear}
use Rattle.words.proofs.Plus.{length-plus, plus-zeros, plus_at-first, plus_at-append}
use Rattle.chacha.specs.Entry.{Stopped, Streaming}
use Rattle.chacha.proofs.Calls.{streaming-done}
use Rattle.blake.specs.Blake.{digest}
use Rattle.blake.specs.Entry.{digesting}
use Rattle.blake.proofs.Hashing.{digesting-done}
use Rattle.lioness.specs.declared.Step.{Step}
use Rattle.lioness.specs.Lioness.{piece, left, right, stream_step, digest_step, step}
use Rattle.lioness.specs.Steps.{number_of_step, run, Allowed}
use Rattle.lioness.specs.Entry.{chacha, blake, rows}

-- ---- the parts of key and iv

-- what is lent of them
pub piece-is : (n j at k : ℕ) (s : List ℕ) → at ≡ n * (j - 1) → k ≡ n → take k (drop at s) ≡ piece n j s
unfolding piece
piece-is n j at k s e f = ap₂ (λ (x y : ℕ). take x (drop y s)) f e

module _ (j : ℕ) (key iv : List ℕ) (key-piece : length (piece 32 j key) ≡ 32) (iv-piece : length (piece 12 j iv) ≡ 12)
  where
    hash-key : length (piece 32 j key ++ piece 12 j iv) ≡ 44
    hash-key = rw (length-append, key-piece, iv-piece)

    -- as an addend that is lent whole
    whole : (n : ℕ) (s p : List ℕ) → p ≡ s → length s ≡ n → part p 0 n ≡ s
    whole n s p e l = ap (λ (x : List ℕ). take n x) e ∙ take_all n s (omega (arith, l))

    pub stream-key-is : (block p k k' : List ℕ) → 32 ≤ length block → p ≡ piece 32 j key
        → k ≡ plus_at 0 (replicate 32 0) (part block 0 32) → k' ≡ plus_at 0 k (part p 0 32)
        → k' ≡ plus (left block) (piece 32 j key)
    stream-key-is block p k k' h ep e e' =
        let el : k ≡ left block = e ∙ plus_at-first (replicate 32 0) (left block)
        ∙ plus-zeros 32 (left block) (length-take-le 32 block h) in
        e' ∙ plus_at-first k (part p 0 32) ∙ ap₂ plus el (whole 32 (piece 32 j key) p ep key-piece)

    pub digest-key-is : (p q k k' : List ℕ) → p ≡ piece 32 j key → q ≡ piece 12 j iv
        → k ≡ plus_at 0 (replicate 44 0) (part p 0 32) → k' ≡ plus_at 32 k (part q 0 12)
        → k' ≡ piece 32 j key ++ piece 12 j iv
    digest-key-is p q k k' ep eq e e' =
        let a = piece 32 j key in
        let b = piece 12 j iv in
        let ek = e ∙ ap (plus_at 0 (replicate 44 0)) (whole 32 a p ep key-piece) in
        e' ∙ ap₂ (plus_at 32) ek (whole 12 b q eq iv-piece)
        ∙ ap (λ (n : ℕ). plus_at n (plus_at 0 (replicate 44 0) a) b) (sym (zero-add (length a) ∙ key-piece))
        ∙ plus_at-append 0 (replicate 44 0) a b ∙ plus_at-first (replicate 44 0) (a ++ b)
        ∙ plus-zeros 44 (a ++ b) hash-key

    module _ (block : List ℕ) (least : 33 ≤ length block) (most : length block ≤ 1048608) where
      -- the right part, lent whole
      lent : take (length block - 32) (right block) ≡ right block
      lent = take_all (length block - 32) (right block) (simp length-drop (omega arith))

      short : length (right block) ≤ 1048576
      short = simp length-drop (omega arith)

      pub stream-step-is : (k n x : List ℕ) (r next : ℕ) → k ≡ plus (left block) (piece 32 j key) → n ≡ piece 12 j iv
          → Streaming r next k n 0 (take (length block - 32) (right block)) x
          → put_mid 32 (length block - 32) block x ≡ stream_step chacha key iv j block
      unfolding stream_step
      stream-step-is k n x r next ek en es =
          let lk : length k ≡ 32 = ap length ek ∙ length-plus (left block) (piece 32 j key)
          ∙ length-take-le 32 block (omega arith) in
          let ln : length n ≡ 12 = ap length en ∙ iv-piece in
          let hb : 0 + (length (right block) + 63) / 64 ≤ 2 ^ 32 = omega (arith, short) in
          let es' : Streaming r next k n 0 (right block) x = es ∙ rw lent in
          let ex : x ≡ chacha k n (right block) = ap (λ (y : Answer Stopped). y.outcome.text)
          (es' ∙ streaming-done k n 0 (right block) lk ln short hb) in
          rw (
            drop_of_length-le (right block) {i = length block - 32} (simp length-drop (omega arith)),
            append-nil,
            ex,
            ek,
            en,
          )

      pub digest-step-is : (k room d x : List ℕ) (r : ℕ) → k ≡ piece 32 j key ++ piece 12 j iv → length room ≡ 64
          → answered r d ≡ digesting k (take (length block - 32) (right block)) room
          → x ≡ plus_at 0 (left block) (part d 0 32)
          → x ++ right block ≡ digest_step blake key iv j block
      unfolding digest_step
      digest-step-is k room d x r ek er es ex =
          let R = right block in
          let lk : length k ≤ 64 = omega (arith, ap length ek ∙ hash-key) in
          let none : length room ≡ 0 → ⊥ = λ e. omega arith in
          let es' : answered r d ≡ digesting k R room = es ∙ rw lent in
          let ed : d ≡ blake k R = ap (λ (y : Answer (List ℕ)). y.outcome)
          (es' ∙ digesting-done k R room lk short none (omega arith)) ∙ ap (λ (n : ℕ). digest k R n) er in
          ap (λ (l : List ℕ). l ++ R)
          (ex ∙ plus_at-first (left block) (take 32 d) ∙ ap (λ (l : List ℕ). plus (left block) (take 32 l)) ed
          ∙ ap (λ (l : List ℕ). plus (left block) (take 32 (blake l R))) ek)

-- ---- one after another

-- a step on, of those that are left
pub run-next : (key iv block block' r : List ℕ) (s : Step) (order : List Step) (i : ℕ) → i < length order
    → block' ≡ step chacha blake key iv (number_of_step (get_or order i s)) block
    → run key iv (drop i order) block ≡ r → run key iv (drop (i + 1) order) block' ≡ r
run-next key iv block block' r s order i h eb e = rw (add-one, eb) (rw (drop-cons order i s h) at e)

-- a step of an odd number, and one of an even
pub odd-step : (key iv block block' : List ℕ) (j n : ℕ) → n ≡ j → n % 2 ≡ 1
    → block' ≡ stream_step chacha key iv j block → block' ≡ step chacha blake key iv j block
unfolding step
odd-step key iv block block' j n en e eb = simp (eq-eqb (j % 2) 1 (omega (arith, en, e))) eb

pub even-step : (key iv block block' : List ℕ) (j n : ℕ) → n ≡ j → (n % 2 ≡ 1 → ⊥)
    → block' ≡ digest_step blake key iv j block → block' ≡ step chacha blake key iv j block
unfolding step
even-step key iv block block' j n en e eb = simp (ne_eqb (j % 2) 1 (rw en at e)) eb

-- ---- what is not refused

pub allowed : (key iv block : List ℕ) → Clear (rows (length key) (length iv) (length block)) → Allowed key iv block
allowed key iv block (k, (i, (l, (m, none)))) =
    (eqb-true _ _ (not-false _ k), eqb-true _ _ (not-false _ i), ltb-false _ _ l, ltb-false _ _ m)
