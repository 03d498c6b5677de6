-- A text in bursts of whole blocks, and a last part: calls one after another, each started at what the one before
-- answered.
use Rattle.std.specs.Prelude.{◌≡◌, ℕ, ◌%◌, List, [], ◌∷◌, ◌++◌, length}
use Rattle.chacha.specs.Entry.{Stopped, stopped_at, streaming}

-- "whole 64-byte blocks"
abbrev pub Whole : List ℕ → Type 0
Whole burst = length burst % 64 ≡ 0

abbrev pub AllWhole : List (List ℕ) → Type 0
AllWhole [] = Unit {0}
AllWhole (burst ∷ more) = Whole burst × AllWhole more

-- the whole text
unfoldable pub joined : List (List ℕ) → List ℕ → List ℕ
joined [] last = last
joined (burst ∷ more) last = burst ++ joined more last

module _ (key nonce : List ℕ) where
  -- every call is done
  unfoldable pub AllDone : ℕ → List (List ℕ) → List ℕ → Type 0
  AllDone start [] last = (streaming key nonce start last).number ≡ 0
  AllDone start (burst ∷ more) last =
      ((streaming key nonce start burst).number ≡ 0)
      × AllDone (streaming key nonce start burst).outcome.next more last

  -- the bytes that they leave, end to end, and what the last one answers
  unfoldable pub in_bursts : ℕ → List (List ℕ) → List ℕ → Stopped
  in_bursts start [] last = (streaming key nonce start last).outcome
  in_bursts start (burst ∷ more) last =
      let one = (streaming key nonce start burst).outcome in
      let rest = in_bursts one.next more last in
      stopped_at rest.next (one.text ++ rest.text)
