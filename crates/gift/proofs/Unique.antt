-- Each public function's promise allows one result.
use mathlib.Core.Path.{◌≡◌, refl}
use mathlib.Core.Bool.{Bool}
use mathlib.Core.List.{List, []}
use Prim.Native.Nat.{ℕ}
use lib.ListN.{length}
use Rattle.words.specs.declared.Block.{Block}
use Rattle.words.specs.Block.{value, halves}
use Rattle.answers.specs.Answers.{applying, smallest}
use Rattle.answers.proofs.Answers.{same_answer, least-answered}
use Rattle.words.proofs.Unique.{same}
use Rattle.gift.specs.declared.RoundKeys.{RoundKeys}
use Rattle.gift.specs.Entry.{round_keys, enciphers, deciphers, rows, crypting, Enciphering, Deciphering}

pub encipher-unique : (key block : List ℕ) {m n : ℕ} {a b : List ℕ} → Enciphering m key block a
    → Enciphering n key block b → (m ≡ n) × (a ≡ b)
encipher-unique key block = same_answer

pub decipher-unique : (key block : List ℕ) {m n : ℕ} {a b : List ℕ} → Deciphering m key block a
    → Deciphering n key block b → (m ≡ n) × (a ≡ b)
decipher-unique key block = same_answer

-- the number is the smallest that applies
pub crypting-least : (back : Bool) (key block : List ℕ)
    → (crypting back key block).number ≡ smallest (applying (rows (length key) (length block)))
unfolding crypting
crypting-least back key block = least-answered _ _ [] refl (rows (length key) (length block)) tt

pub round-keys-of-unique : (key : Block) {a b : RoundKeys} → a ≡ round_keys (value key) → b ≡ round_keys (value key)
    → a ≡ b
round-keys-of-unique key = same

pub encipher-block-unique : (a : RoundKeys) (x : Block) {r s : Block} → r ≡ halves (enciphers a (value x))
    → s ≡ halves (enciphers a (value x)) → r ≡ s
encipher-block-unique a x = same

pub decipher-block-unique : (a : RoundKeys) (x : Block) {r s : Block} → r ≡ halves (deciphers a (value x))
    → s ≡ halves (deciphers a (value x)) → r ≡ s
decipher-block-unique a x = same
