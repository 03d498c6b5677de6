-- What comes back: "Where several apply, the smallest number is given."
use Rattle.std.specs.Prelude.{ℕ, min, Bool, cond, List, [], ◌∷◌}

-- a line of the table: does it apply, and its number
pub record Row : Type 0 where
  pub applies : Bool
  pub number : ℕ

-- of rows, as they stand, that of the first that applies; 0 where none does
abbrev pub number_of : List Row → ℕ
number_of [] = 0
number_of (r ∷ rs) = cond r.applies r.number (number_of rs)

-- an answer: its number, and its outcome: what the lent memory holds then, or what else is handed back
pub record Answer (A : Type 0) : Type 0 where
  pub number : ℕ
  pub outcome : A

-- what a call answered
abbrev pub answered : {A : Type 0} → ℕ → A → Answer A
answered n a = record { number = n; outcome = a }

-- the first row that applies, with the memory that it keeps; where none does, what follows
abbrev pub refuse : {A : Type 0} → List Row → A → Answer A → Answer A
refuse [] kept follows = follows
refuse (r ∷ rs) kept follows = cond r.applies (answered r.number kept) (refuse rs kept follows)

-- the first that applies, with the memory as it was; where none does 0, and the outputs
abbrev pub answer : {A : Type 0} → List Row → A → A → Answer A
answer rows done kept = refuse rows kept (answered 0 done)

-- what the sentence asks for: the numbers of all rows that apply
abbrev pub applying : List Row → List ℕ
applying [] = []
applying (r ∷ rs) = cond r.applies (r.number ∷ applying rs) (applying rs)

-- the smallest of some numbers; 0 where there are none
abbrev pub smallest : List ℕ → ℕ
smallest [] = 0
smallest (n ∷ []) = n
smallest (n ∷ m ∷ s) = min n (smallest (m ∷ s))
