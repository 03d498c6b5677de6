-- What the private functions answer of a stretch of the walk.
use Rattle.std.specs.Prelude.{◌≡◌, ℕ, ◌≤◌, List, length, Result, Ok, Err}
use Rattle.pack.specs.Pack.{Answer, Done, Reading, card_of, answer_at}
use Rattle.pack.specs.Reader.{said_bad}
use Rattle.pack.specs.declared.items.Stop.{Stop}
use Rattle.pack.specs.declared.items.Stop.TheVariants.{At, Bad}
use Rattle.pack.specs.declared.items.Behind.{Behind}

-- the answer at which a walk stops
abbrev pub stopped : Stop → Answer
stopped (At c) = card_of c.kind c.start c.length
stopped (Bad bad) = said_bad bad

-- that of a walk that comes to its end
abbrev pub ended : Result (Unit {0}) Stop → Answer
ended (Ok done) = Done
ended (Err stop) = stopped stop

-- the answer, which may lie in what follows the stretch
unfoldable pub settled : Result Behind Stop → (ℕ → ℕ → Reading) → Answer
settled (Err stop) follows = stopped stop
settled (Ok b) follows = answer_at (follows b.count b.at) b.place

-- where what follows starts
unfoldable pub reached : Result Behind Stop → ℕ
reached (Err stop) = 0
reached (Ok b) = b.at

-- r settles the answer at a place of a stretch, whatever follows that, and leaves the bytes behind it
pub record Settles (s : List ℕ) (stretch : (ℕ → ℕ → Reading) → Reading) (place : ℕ)
    (r : Result Behind Stop) : Type 0 where
  pub answers : (follows : ℕ → ℕ → Reading) → settled r follows ≡ answer_at (stretch follows) place
  pub within : reached r ≤ length s
