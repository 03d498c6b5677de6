-- Each public function's promise allows one result.
use mathlib.Core.Path.{◌≡◌, sym, ◌∙◌}
use mathlib.Core.Bool.{Bool}
use mathlib.Core.List.{List}
use Prim.Native.Nat.{ℕ}
use lib.Bits.{bit_xor}
use lib.Dec.{eqb}
use Rattle.words.specs.declared.Block.{Block}
use Rattle.words.specs.Block.{value, halves, part, loaded, loaded_pad, stored, two}
use Rattle.words.specs.Bytes.{plus_at}
use denote.Ref.{Bor}
use Rattle.words.specs.Lent.{lent, First}
use Rattle.words.specs.Square.{Squared}
use Rattle.words.proofs.Squares.{squared-unique}
use Rattle.words.specs.Search.{same as alike, finding}

-- two results of one equation are equal
pub same : {A : Type 0} {x y z : A} → x ≡ z → y ≡ z → x ≡ y
same p q = p ∙ sym q

-- a byte, in 64 bits
pub wide-unique : (x : ℕ) {r s : ℕ} → r ≡ x → s ≡ x → r ≡ s
wide-unique x = same

pub from-unique : (x : ℕ) {r s : Block} → r ≡ record { lo = x; hi = 0 } → s ≡ record { lo = x; hi = 0 } → r ≡ s
from-unique x = same

pub xor-unique : (a b : Block) {r s : Block} → r ≡ halves (bit_xor (value a) (value b))
    → s ≡ halves (bit_xor (value a) (value b)) → r ≡ s
xor-unique a b = same

pub equal-unique : (a b : Block) {r s : Bool} → r ≡ eqb (value a) (value b) → s ≡ eqb (value a) (value b) → r ≡ s
equal-unique a b = same

pub load-unique : (s : List ℕ) (at n : ℕ) {r t : Block} → r ≡ halves (loaded s at n) → t ≡ halves (loaded s at n)
    → r ≡ t
load-unique s at n = same

pub load-pad-unique : (s : List ℕ) (at n : ℕ) {r t : Block} → r ≡ halves (loaded_pad s at n)
    → t ≡ halves (loaded_pad s at n) → r ≡ t
load-pad-unique s at n = same

pub store-unique : (s : List ℕ) (at n : ℕ) (x : Block) {a b : List ℕ} → a ≡ stored s at n (value x)
    → b ≡ stored s at n (value x) → a ≡ b
store-unique s at n x = same

pub add-unique : (s : List ℕ) (at : ℕ) (t : List ℕ) (from n : ℕ) {a b : List ℕ} → a ≡ plus_at at s (part t from n)
    → b ≡ plus_at at s (part t from n) → a ≡ b
add-unique s at t from n = same

pub two-unique : (s : List ℕ) (at : ℕ) {m n : ℕ} → m ≡ two s at → n ≡ two s at → m ≡ n
two-unique s at = same

pub same-unique : (s t : List ℕ) {a b : Bool} → a ≡ alike s t → b ≡ alike s t → a ≡ b
same-unique s t = same

pub find-unique : (s : List ℕ) (from to c : ℕ) {m n : ℕ} → m ≡ finding s from to c → n ≡ finding s from to c → m ≡ n
find-unique s from to c = same

-- the same bytes at the same place of memory
pub first-unique : (s : Bor (List ℕ)) (n : ℕ) (a b : Bor (List ℕ)) → First a s n → First b s n → lent a ≡ lent b
first-unique s n a b = same

pub square-unique : {W : Type 0} (f : ℕ → W → W → W → W → W × W × W × W) (v : List W) {a b : List W} → Squared f v a
    → Squared f v b → a ≡ b
square-unique = squared-unique
