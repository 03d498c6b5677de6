-- Enciphering and deciphering, as the entry points answer, undo each other: for every key, iv and block, refused or
-- not.
use mathlib.Core.Path.{◌≡◌}
use mathlib.Core.List.{List}
use Prim.Native.Nat.{ℕ, ◌≤◌}
use native.Mathlib.Omega.{arith}
use lib.ListN.{length}
use Rattle.answers.specs.Answers.{answered}
use Rattle.answers.proofs.Answers.{Clear, undone}
use Rattle.chacha.proofs.Streams.{length-stream, stream-twice}
use Rattle.lioness.specs.Lioness.{steps}
use Rattle.lioness.specs.Entry.{chacha, blake, rows, ordered, enciphering, deciphering}
use Rattle.lioness.proofs.Steps.{allowed}
use Rattle.lioness.proofs.Inverse.{length-steps, steps-undone}

module _ (key iv block : List ℕ) (p q r s : ℕ) where
  long : Clear (rows (length key) (length iv) (length block)) → 32 ≤ length block
  long c = let l = (allowed key iv block c).2 in omega arith

  same_length : Clear (rows (length key) (length iv) (length block))
      → length (steps chacha blake key iv p q r s block) ≡ length block
  same_length c =
      length-steps chacha blake (λ k n t. stream-twice k n t 0) (λ k n t. length-stream k n t 0) key iv p q r s block
      (long c)

  -- the same number, and the block as it was
  ordered-undone : ordered s r q p key iv (ordered p q r s key iv block).outcome
      ≡ answered (ordered p q r s key iv block).number block
  unfolding ordered
  ordered-undone =
      undone (λ b. rows (length key) (length iv) (length b)) (steps chacha blake key iv p q r s)
      (steps chacha blake key iv s r q p) block
      (λ c. rw (same_length c))
      (λ c. steps-undone chacha blake (λ k n t. stream-twice k n t 0) (λ k n t. length-stream k n t 0) key iv p q r s
      block (long c))

pub deciphering-enciphering : (key iv block : List ℕ) → deciphering key iv (enciphering key iv block).outcome
    ≡ answered (enciphering key iv block).number block
deciphering-enciphering key iv block = ordered-undone key iv block 1 2 3 4

pub enciphering-deciphering : (key iv block : List ℕ) → enciphering key iv (deciphering key iv block).outcome
    ≡ answered (deciphering key iv block).number block
enciphering-deciphering key iv block = ordered-undone key iv block 4 3 2 1
