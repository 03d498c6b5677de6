-- The entry points: what their steps leave, and that they undo each other on every input.
use mathlib.Core.Path.{◌≡◌, sym, ap, ap₂, ◌∙◌, subst}
use mathlib.Core.Bool.{Bool, true, false, not}
use mathlib.Core.List.{List}
use Prim.Native.Nat.{ℕ, ◌^◌, ◌<◌}
use borrow.Author.Tests.{eqb-true, not-false}
use lib.ListN.{length}
use Rattle.words.specs.declared.Block.{Block}
use Rattle.words.specs.Block.{value, halves, loaded, stored}
use Rattle.words.specs.Bytes.{Bytes, number, bytes}
use Rattle.answers.specs.Answers.{answered}
use Rattle.words.proofs.Blocks.{value-halves, value-is, loaded-all, stored-all}
use Rattle.words.proofs.Bytes.{length-bytes, number-bytes, bytes-number, number_lt}
use Rattle.words.proofs.Lists.{tab-at}
use Rattle.answers.proofs.Answers.{Clear, refuse-clear, undone}
use Rattle.gift.specs.declared.RoundKeys.{RoundKeys}
use Rattle.gift.specs.Gift.{round_key, forty, cipher, encipher, decipher}
use Rattle.gift.specs.Entry.{round_keys, round_key_in, enciphers, deciphers, rows, crypting, enciphering}
use Rattle.gift.specs.Entry.{deciphering}
use Rattle.gift.proofs.Inverse.{forty-same, cipher-lt, cipher-undone}

-- ---- the round keys, worked out, are those of the rounds

round_key_in-is : (k r : ℕ) → r < 40 → round_key_in (round_keys k) r ≡ round_key k r
unfolding round_keys round_key_in
round_key_in-is k r h = ap value (tab-at (λ i. halves (round_key k i)) (halves 0) 40 r h) ∙ value-halves (round_key k r)

forty-is : (back : Bool) (k x : ℕ) → forty back (round_key_in (round_keys k)) x ≡ cipher back k x
unfolding cipher
forty-is back k x = forty-same back (round_key_in (round_keys k)) (round_key k) x (round_key_in-is k)

pub enciphers-is : (k x : ℕ) → enciphers (round_keys k) x ≡ encipher k x
unfolding enciphers
enciphers-is k x = forty-is false k x

pub deciphers-is : (k x : ℕ) → deciphers (round_keys k) x ≡ decipher k x
unfolding deciphers
deciphers-is k x = forty-is true k x

-- ---- what a call leaves

-- the lengths that are not refused
pub record Allowed (key block : ℕ) : Type 0 where
  pub key-16 : key ≡ 16
  pub block-16 : block ≡ 16

pub allowed : (key block : ℕ) → Clear (rows key block) → Allowed key block
allowed key block (k, (b, none)) =
    record { key-16 = eqb-true _ _ (not-false _ k); block-16 = eqb-true _ _ (not-false _ b) }

pub crypted : (back : Bool) (key block : List ℕ) {k x y : Block} {a : RoundKeys} {end : List ℕ}
    → Clear (rows (length key) (length block))
    → k ≡ halves (loaded key 0 16) → a ≡ round_keys (value k) → x ≡ halves (loaded block 0 16)
    → y ≡ halves (forty back (round_key_in a) (value x)) → end ≡ stored block 0 16 (value y)
    → answered 0 end ≡ crypting back key block
unfolding crypting
crypted back key block {k} {x} {y} {a} {end} c ek ea ex ey ee =
    let l = allowed (length key) (length block) c in
    let vk : value k ≡ number key = value-is ek ∙ loaded-all key l.key-16 in
    let vx : value x ≡ number block = value-is ex ∙ loaded-all block l.block-16 in
    ap (answered 0)
    (ee ∙ stored-all block (value y) l.block-16
    ∙ ap (bytes 16)
    (value-is ey ∙ ap (λ b. forty back (round_key_in b) (value x)) ea ∙ forty-is back (value k) (value x)
    ∙ ap₂ (cipher back) vk vx))
    ∙ sym (refuse-clear _ _ (rows (length key) (length block)) c)

-- ---- each undoes the other, on every input: what is refused is left as it was

module _ (back : Bool) (key block : List ℕ) (are : Bytes block) where
  -- what comes of the block, each way
  there : Bool → List ℕ → List ℕ
  there b x = bytes 16 (cipher b (number key) (number x))

  full : Clear (rows (length key) (length block)) → length block ≡ 16
  full c = (allowed (length key) (length block) c).block-16

  there_back : length block ≡ 16 → there (not back) (there back block) ≡ block
  unfolding there
  there_back hb =
      let k = number key in
      let x = number block in
      let hx : x < 2 ^ 128 = subst (λ (n : ℕ). x < 256 ^ n) hb (number_lt block are) in
      ap (λ (z : ℕ). bytes 16 (cipher (not back) k z)) (number-bytes 16 (cipher back k x) (cipher-lt back k x hx))
      ∙ ap (bytes 16) (cipher-undone back k x hx)
      ∙ ap (λ (n : ℕ). bytes n x) (sym hb)
      ∙ bytes-number block are

  crypting-undone : crypting (not back) key (crypting back key block).outcome
      ≡ answered (crypting back key block).number block
  unfolding crypting there
  crypting-undone =
      undone (λ b. rows (length key) (length b)) (there back) (there (not back)) block
      (λ c. rw (length-bytes 16 (cipher back (number key) (number block)), full c)) (λ c. there_back (full c))

pub deciphering-enciphering : (key block : List ℕ) → Bytes block
    → deciphering key (enciphering key block).outcome ≡ answered (enciphering key block).number block
deciphering-enciphering = crypting-undone false

pub enciphering-deciphering : (key block : List ℕ) → Bytes block
    → enciphering key (deciphering key block).outcome ≡ answered (deciphering key block).number block
enciphering-deciphering = crypting-undone true
