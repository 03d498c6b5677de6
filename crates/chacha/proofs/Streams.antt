-- The key stream: one block on, adding it twice, and cutting it after whole blocks.
use Rattle.std.proofs.Common.{◌≡◌, ℕ, zero, suc, ◌+◌, ◌-◌, ◌*◌, ◌<◌, List, ◌++◌, length, sym}
use Rattle.std.proofs.Common.{refl, ap, ◌∙◌, append_assoc}
use Rattle.std.proofs.Common.{add-zero, add-suc, suc-add, zero-add, arith, length-append, take_all}
use Rattle.std.proofs.Math.Nat.{sub-zero}
use Rattle.words.specs.Block.{part}
use Rattle.words.specs.Bytes.{plus, plus_at}
use Rattle.words.proofs.Plus.{length-plus, plus-twice, plus-append, plus_at-first, plus_at-none, plus_at-append}
use Rattle.chacha.specs.ChaCha.{block, blocks, start_state, key_stream, stream}
use Rattle.chacha.proofs.Rounds.{length-block}

-- ---- the loop

pub stream-first : (key nonce text : List ℕ) (c n : ℕ) → n ≡ blocks (length text)
    → plus_at 0 text (key_stream key nonce (c + 0) (n - 0)) ≡ stream key nonce c text
unfolding stream
stream-first key nonce text c n e =
    rw (add-zero, sub-zero)
    (plus_at-first text (key_stream key nonce c n) ∙ ap (λ (m : ℕ). plus text (key_stream key nonce c m)) e)

-- block i of n is added, the counter c at the start
pub stream-next : (key nonce text text' k l : List ℕ) (c i n : ℕ) → i < n → k ≡ block key nonce (c + i)
    → text' ≡ plus_at (64 * i) text (part k 0 64)
    → plus_at (64 * i) text (key_stream key nonce (c + i) (n - i)) ≡ l
    → plus_at (64 * (i + 1)) text' (key_stream key nonce (c + (i + 1)) (n - (i + 1))) ≡ l
unfolding key_stream
stream-next key nonce text text' k l c i n h ek et e =
    let b = block key nonce (c + i) in
    let m = n - (i + 1) in
    let lb : length b ≡ 64 = length-block (start_state key nonce (c + i)) in
    let eb : part k 0 64 ≡ b = ap (λ (x : List ℕ). part x 0 64) ek ∙ take_all 64 b (omega arith) in
    let ei : 64 * (i + 1) ≡ 64 * i + length b = omega (arith, lb) in
    let ec : c + (i + 1) ≡ suc (c + i) = omega arith in
    let em : n - i ≡ suc m = omega arith in
    rw (ei, ec, et, eb) (plus_at-append (64 * i) text b (key_stream key nonce (suc (c + i)) m) ∙ rw em at e)

pub stream_end : (key nonce text l : List ℕ) (c i n : ℕ) → n ≡ 0 → plus_at i text (key_stream key nonce c n) ≡ l
    → text ≡ l
unfolding key_stream
stream_end key nonce text l c i n en e = sym (plus_at-none i text) ∙ rw en at e

-- ---- facts of the stream

pub length-stream : (key nonce text : List ℕ) (counter : ℕ) → length (stream key nonce counter text) ≡ length text
unfolding stream
length-stream key nonce text counter = length-plus text (key_stream key nonce counter (blocks (length text)))

-- a stream applied twice gives the text back
pub stream-twice : (key nonce text : List ℕ) (counter : ℕ)
    → stream key nonce counter (stream key nonce counter text) ≡ text
unfolding stream
stream-twice key nonce text counter =
    let ks = key_stream key nonce counter (blocks (length text)) in
    ap (λ (n : ℕ). plus (plus text ks) (key_stream key nonce counter (blocks n))) (length-plus text ks)
    ∙ plus-twice text ks

module _ (key nonce : List ℕ) where
  length-key_stream : (counter n : ℕ) → length (key_stream key nonce counter n) ≡ 64 * n
  unfolding key_stream
  length-key_stream counter zero = refl
  length-key_stream counter (suc n) =
      rw (length-append, length-block (start_state key nonce counter), length-key_stream (suc counter) n) (omega arith)

  key_stream-append : (counter m n : ℕ) → key_stream key nonce counter (m + n)
      ≡ key_stream key nonce counter m ++ key_stream key nonce (counter + m) n
  unfolding key_stream
  key_stream-append counter zero n = rw (zero-add, add-zero)
  key_stream-append counter (suc m) n =
      rw (suc-add, key_stream-append (suc counter) m n, append_assoc, add-suc, suc-add)

  -- cutting it after m whole blocks gives the same bytes
  pub stream-cut : (a b : List ℕ) (counter m : ℕ) → length a ≡ 64 * m
      → stream key nonce counter (a ++ b) ≡ stream key nonce counter a ++ stream key nonce (counter + m) b
  unfolding stream
  stream-cut a b counter m e =
      let ea : blocks (length a) ≡ m = omega arith in
      let eab : blocks (length (a ++ b)) ≡ m + blocks (length b) = rw length-append (omega arith) in
      rw (eab, ea, key_stream-append counter m (blocks (length b)))
      (plus-append a b (key_stream key nonce counter m) (key_stream key nonce (counter + m) (blocks (length b)))
      (e ∙ sym (length-key_stream counter m)))
