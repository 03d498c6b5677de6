-- A step done again and again.
use Rattle.std.specs.Prelude.{ℕ, zero, suc}

-- n steps, f 0 first, then f 1, ..
unfoldable pub iterate : {A : Type 0} → (ℕ → A → A) → ℕ → A → A
iterate f zero x = x
iterate f (suc n) x = f n (iterate f n x)
