-- What demand 3 asks of a block function, and of two ciphertexts.
use Rattle.std.specs.Prelude.{◌≡◌, List, ℕ, ◌^◌, ◌<◌, length}
use Rattle.mode.specs.Hyena.{before, block_at, last, full}

-- a block function with an inverse
pub record Inverted (E D : ℕ → ℕ) : Type 0 where
  pub block : (x : ℕ) → x < 2 ^ 128 → E x < 2 ^ 128
  pub undone : (x : ℕ) → x < 2 ^ 128 → D (E x) ≡ x

-- "two non-empty ciphertexts .. with as many 16-byte blocks, equal in every block before the last, last blocks both
-- full or both partial"
pub record Alike (c d : List ℕ) : Type 0 where
  pub some-c : length c ≡ 0 → ⊥
  pub some-d : length d ≡ 0 → ⊥
  pub as_many : before c ≡ before d
  pub equal : (i : ℕ) → i < before c → block_at c i ≡ block_at d i
  pub ends : full (last c) ≡ full (last d)
