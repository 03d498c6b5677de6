-- The refusals by name, and the number of an answer.
use Rattle.std.specs.Prelude.{ℕ, Result, Ok, Err}
use Rattle.answers.specs.declared.Refusal.{Refusal}
use Rattle.answers.specs.declared.Refusal.TheVariants.{KeyLength, NonceLength, DataLength, TextLength, TagLength}
use Rattle.answers.specs.declared.Refusal.TheVariants.{RoomLength, WrongTag, StreamTooLong, DrawerSpent, BookForm}
use Rattle.answers.specs.declared.Refusal.TheVariants.{ClassMissing, CutShort, CountOrLength, BadShuffle}
use Rattle.answers.specs.declared.Refusal.TheVariants.{LeftOver, MoreThanDeclared, OutOfTurn, BatchForm}

-- the number of a refusal, document 01's up to 11, document 02's above
abbrev pub number_of_refusal : Refusal → ℕ
number_of_refusal KeyLength = 1
number_of_refusal NonceLength = 2
number_of_refusal DataLength = 3
number_of_refusal TextLength = 4
number_of_refusal TagLength = 5
number_of_refusal RoomLength = 6
number_of_refusal WrongTag = 7
number_of_refusal StreamTooLong = 8
number_of_refusal DrawerSpent = 9
number_of_refusal BookForm = 10
number_of_refusal ClassMissing = 11
number_of_refusal CutShort = 12
number_of_refusal CountOrLength = 13
number_of_refusal BadShuffle = 14
number_of_refusal LeftOver = 15
number_of_refusal MoreThanDeclared = 16
number_of_refusal OutOfTurn = 17
number_of_refusal BatchForm = 18

-- the number of an answer: 0, or that of its refusal
abbrev pub told : {A : Type 0} → Result A Refusal → ℕ
told (Ok x) = 0
told (Err why) = number_of_refusal why
