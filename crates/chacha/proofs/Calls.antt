-- Calls of the key stream, by the entry point's definition: when they are done and where they stop, called twice, cut
-- after whole blocks, and in bursts.
use Rattle.std.proofs.Common.{◌≡◌, ℕ, ◌+◌, ◌^◌, ◌<◌, ◌≤◌, List, [], ◌∷◌, ◌++◌, length, sym, refl, ap, ◌∙◌, ap₂, arith}
use Rattle.std.proofs.Common.{length-append, ltb-false, le-ltb, lt-ltb, eq-eqb, eqb-true}
use borrow.Author.Tests.{not-false}
use Rattle.answers.specs.Answers.{answered}
use Rattle.answers.proofs.Answers.{Clear, refuse-clear, answer-done, answer-has}
use Rattle.chacha.specs.ChaCha.{blocks, stream}
use Rattle.chacha.specs.Entry.{rows, stopped_at, streaming}
use Rattle.chacha.specs.Bursts.{Whole, AllWhole, joined, AllDone, in_bursts}
use Rattle.chacha.proofs.Streams.{length-stream, stream-twice, stream-cut}

-- ---- when a call is done, and where it stops

-- what is not refused
pub record Allowed (key nonce start text : ℕ) : Type 0 where
  pub key-32 : key ≡ 32
  pub nonce-12 : nonce ≡ 12
  pub text-most : text ≤ 1048576
  pub blocks-most : start + blocks text ≤ 2 ^ 32

pub allowed : (key nonce start text : ℕ) → Clear (rows key nonce start text) → Allowed key nonce start text
allowed key nonce start text (k, (n, (t, (b, none)))) =
    record {
      key-32 = eqb-true _ _ (not-false _ k);
      nonce-12 = eqb-true _ _ (not-false _ n);
      text-most = ltb-false _ _ t;
      blocks-most = ltb-false _ _ b;
    }

module _ (key nonce : List ℕ) (start : ℕ) (text : List ℕ) where
  pub streaming-done : length key ≡ 32 → length nonce ≡ 12 → length text ≤ 1048576
      → start + blocks (length text) ≤ 2 ^ 32
      → streaming key nonce start text
      ≡ answered 0 (stopped_at (start + blocks (length text)) (stream key nonce start text))
  unfolding streaming
  streaming-done ek en ht hb = simp (eq-eqb _ _ ek, eq-eqb _ _ en, le-ltb _ _ ht, le-ltb _ _ hb)

  -- "beside 0, start plus blocks used"
  pub done_next : (streaming key nonce start text).number ≡ 0
      → Allowed (length key) (length nonce) start (length text)
      × ((streaming key nonce start text).outcome
      ≡ stopped_at (start + blocks (length text)) (stream key nonce start text))
  unfolding streaming
  done_next done =
      let d = answer-done _ _ (rows (length key) (length nonce) start (length text)) tt done in
      (allowed _ _ _ _ d.0, ap (λ r. r.outcome) d.1)

  -- "A refusal answers the start."
  pub refused-start : ((streaming key nonce start text).number ≡ 0 → ⊥)
      → (streaming key nonce start text).outcome ≡ stopped_at start text
  unfolding streaming
  refused-start =
      answer-has _ _ (rows (length key) (length nonce) start (length text))
      (λ a. (a.number ≡ 0 → ⊥) → a.outcome ≡ stopped_at start text) tt (λ c h. absurd (h refl)) (λ n h k. refl)

-- ---- "at 2^32 an empty text is done and any other is refused with 8; above 2^32 every text is, the empty one too"

module _ (key nonce : List ℕ) (ek : length key ≡ 32) (en : length nonce ≡ 12) where
  pub empty-at-the-end : (streaming key nonce (2 ^ 32) []).number ≡ 0
  empty-at-the-end = ap (λ r. r.number) (streaming-done key nonce (2 ^ 32) [] ek en (omega arith) (omega arith))

  refused-8 : (start : ℕ) (text : List ℕ) → length text ≤ 1048576 → 2 ^ 32 < start + blocks (length text)
      → (streaming key nonce start text).number ≡ 8
  unfolding streaming
  refused-8 start text ht hb = simp (eq-eqb _ _ ek, eq-eqb _ _ en, le-ltb _ _ ht, lt-ltb _ _ hb)

  pub other-at-the-end : (text : List ℕ) → 0 < length text → length text ≤ 1048576
      → (streaming key nonce (2 ^ 32) text).number ≡ 8
  other-at-the-end text some ht = refused-8 (2 ^ 32) text ht (omega arith)

  pub all_above : (start : ℕ) (text : List ℕ) → 2 ^ 32 < start → length text ≤ 1048576
      → (streaming key nonce start text).number ≡ 8
  all_above start text h ht = refused-8 start text ht (omega arith)

-- ---- twice, from one start: the same answer, and the text is given back, refused or not

pub streaming-twice : (key nonce text : List ℕ) (start : ℕ)
    → let once = streaming key nonce start text in
    streaming key nonce start once.outcome.text ≡ answered once.number (stopped_at once.outcome.next text)
unfolding streaming
streaming-twice key nonce text start =
    answer-has _ _ (rows (length key) (length nonce) start (length text))
    (λ a. a ≡ streaming key nonce start text
    → streaming key nonce start a.outcome.text ≡ answered a.number (stopped_at a.outcome.next text)) tt
    (λ c e. rw (length-stream key nonce text start, stream-twice key nonce text start)
    (refuse-clear _ _ (rows (length key) (length nonce) start (length text)) c))
    (λ n h e. sym e) refl

-- ---- in two, cut after whole blocks

module _ (key nonce a b : List ℕ) (start : ℕ) (whole : Whole a) where
  -- where the stream stops after a
  abbrev cut : ℕ
  cut = start + blocks (length a)

  both : stopped_at (start + blocks (length (a ++ b))) (stream key nonce start (a ++ b))
      ≡ stopped_at (cut + blocks (length b)) (stream key nonce start a ++ stream key nonce cut b)
  both =
      let l = length-append a b in
      ap₂ stopped_at (omega (arith, l, whole))
      (stream-cut key nonce a b start (blocks (length a)) (omega (arith, whole)))

  -- "Where one call is done, cutting it after whole 64-byte blocks into two gives the same": the second is started at
  -- what the first answered, both are done, and their bytes and the last answer are those of the one call
  pub streaming-cut : (streaming key nonce start (a ++ b)).number ≡ 0
      → let first = streaming key nonce start a in
      let second = streaming key nonce first.outcome.next b in
      (first.number ≡ 0) × (second.number ≡ 0)
      × ((streaming key nonce start (a ++ b)).outcome
      ≡ stopped_at second.outcome.next (first.outcome.text ++ second.outcome.text))
  streaming-cut done =
      let (k, e) = done_next key nonce start (a ++ b) done in
      let l = length-append a b in
      let ht = k.text-most in
      let hb = k.blocks-most in
      let first = streaming-done key nonce start a k.key-32 k.nonce-12 (omega (arith, ht, l))
      (omega (arith, hb, l)) in
      let second = streaming-done key nonce cut b k.key-32 k.nonce-12 (omega (arith, ht, l))
      (omega (arith, hb, l, whole)) in
      rw (first, second) (refl, refl, e ∙ both)

-- ---- in bursts and a last part

module _ (key nonce last : List ℕ) where
  -- where one call on the whole text is done, all are
  pub all_done : (start : ℕ) (bursts : List (List ℕ)) → AllWhole bursts
      → (streaming key nonce start (joined bursts last)).number ≡ 0 → AllDone key nonce start bursts last
  unfolding joined AllDone
  all_done start [] w done = done
  all_done start (burst ∷ more) (whole, w) done =
      let c = streaming-cut key nonce burst (joined more last) start whole done in
      (c.0, all_done (streaming key nonce start burst).outcome.next more w c.1)

  -- where all are done, they are one stream over the whole text, also where that is longer than one call takes
  pub in-bursts : (start : ℕ) (bursts : List (List ℕ)) → AllWhole bursts → AllDone key nonce start bursts last
      → in_bursts key nonce start bursts last
      ≡ stopped_at (start + blocks (length (joined bursts last))) (stream key nonce start (joined bursts last))
  unfolding joined AllDone in_bursts
  in-bursts start [] w done = (done_next key nonce start last done).1
  in-bursts start (burst ∷ more) (whole, w) (done, all) =
      let e = (done_next key nonce start burst done).1 in
      rw (e, in-bursts (start + blocks (length burst)) more w (rw e at all))
      (sym (both key nonce burst (joined more last) start whole))
