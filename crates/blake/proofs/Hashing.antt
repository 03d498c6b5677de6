-- The compression, the run over the data and the digest, of what the code's calls ensure.
use Rattle.std.proofs.Common.{◌≡◌, ℕ, zero, suc, ◌+◌, ◌-◌, ◌*◌, ◌/◌, ◌^◌, ◌<◌, ◌≤◌, Bool, true, false, cond, List, []}
use Rattle.std.proofs.Common.{◌∷◌, ◌++◌, length, get_or, take, drop, sym, refl, ap, ◌∙◌, append-nil, mod-eq_of_lt}
use Rattle.std.proofs.Common.{arith, length-append, length-drop, length-take, length-take-le, take_all, drop-drop}
use Rattle.std.proofs.Common.{take_at, drop_at, ltb-false, le-ltb, ne_eqb}
use native.Mathlib.Nat.{div-eq_of_lt}
use lib.Bits.{bit_xor}
use lib.Seq.{sets}
use Rattle.words.specs.declared.Block.{Block}
use Rattle.words.specs.Block.{halves, part, loaded}
use Rattle.words.specs.Bytes.{Bytes, number, filled}
use Rattle.words.specs.Digits.{tab}
use Rattle.answers.specs.Answers.{answered}
use Rattle.answers.proofs.Answers.{Clear}
use Rattle.words.specs.Words.{words, unwords}
use Rattle.words.proofs.Bytes.{length-filled, filled-full}
use Rattle.words.proofs.Lists.{length-tab, listed, sets-whole}
use Rattle.words.proofs.WordLists.{number-filled, loaded_word, length-unwords}
use Rattle.blake.specs.Blake.{iv, rounds, vector, folded, compress, padded, start_chain, absorbed, with_key, hashed}
use Rattle.blake.specs.Blake.{digest}
use Rattle.blake.specs.Entry.{rows, digesting}

-- ---- a block

-- what stands behind the chain value, for a count of one word
abbrev behind : ℕ → ℕ → List ℕ
behind t i =
    get_or iv 0 0 ∷ get_or iv 1 0 ∷ get_or iv 2 0 ∷ get_or iv 3 0 ∷ bit_xor (get_or iv 4 0) t
    ∷ get_or iv 5 0 ∷ i ∷ get_or iv 7 0 ∷ []

vectored : (g : ℕ → ℕ) (t i : ℕ) (last : Bool) → t < 2 ^ 64
    → i ≡ cond last (bit_xor (get_or iv 6 0) 0xFFFFFFFFFFFFFFFF) (get_or iv 6 0)
    → g 0 ∷ g 1 ∷ g 2 ∷ g 3 ∷ g 4 ∷ g 5 ∷ g 6 ∷ g 7 ∷ behind t i ≡ vector (tab g 0 8) t last
unfolding tab vector iv
vectored g t i last h e = rw (e, mod-eq_of_lt h, div-eq_of_lt h)

pub vector-is : (h : List ℕ) → length h ≡ 8 → (t i : ℕ) (last : Bool) → t < 2 ^ 64
    → i ≡ cond last (bit_xor (get_or iv 6 0) 0xFFFFFFFFFFFFFFFF) (get_or iv 6 0)
    → get_or h 0 0 ∷ get_or h 1 0 ∷ get_or h 2 0 ∷ get_or h 3 0 ∷ get_or h 4 0 ∷ get_or h 5 0
    ∷ get_or h 6 0 ∷ get_or h 7 0 ∷ behind t i ≡ vector h t last
vector-is h e t i last k f =
    vectored (λ j. get_or h j 0) t i last k f ∙ ap (λ (l : List ℕ). vector l t last) (sym (listed h 8 e))

-- what a load gives is the word of the padded block
pub word-is : (s : List ℕ) → Bytes s → (i : ℕ) → i < 16 → {b : Block} → b ≡ halves (loaded s (8 * i) 8)
    → b.lo ≡ number (part (padded s) (8 * i) 8)
word-is s h i k e = loaded_word s h (8 * i) 8 e (omega arith) ∙ sym (number-filled (8 * i) 8 128 s (omega arith))

-- what lies behind the block does not count
filled-take : (n : ℕ) (s : List ℕ) → filled 0 n (take n s) ≡ filled 0 n s
unfolding filled
filled-take zero s = refl
filled-take (suc n) [] = refl
filled-take (suc n) (b ∷ s) = ap (λ (l : List ℕ). b ∷ l) (filled-take n s)

pub padded-take : (s : List ℕ) → padded (take 128 s) ≡ padded s
padded-take s = filled-take 128 s

pub compress-is : (h b m v w r : List ℕ) (t : ℕ) (last : Bool) → m ≡ words 8 16 b → v ≡ vector h t last → w ≡ rounds m v
    → r ≡ folded h w → r ≡ compress h b t last
unfolding compress
compress-is h b m v w r t last em ev ew er = rw (er, ew, ev, em)

length-compress : (h b : List ℕ) (t : ℕ) (last : Bool) → length (compress h b t last) ≡ 8
unfolding compress folded
length-compress h b t last = length-tab _ 0 8

-- ---- the run over the data

-- what is lent from place k on
rest_lent : (s : List ℕ) (k : ℕ) → take (length s - k) (drop k s) ≡ drop k s
rest_lent s k = take_all (length s - k) (drop k s) (simp length-drop (omega arith))

-- block i of n before the last: what the rest gives from there is what it gives from the start
pub absorb-next : (s h h' r : List ℕ) (t i n : ℕ) → n ≡ (length s - 1) / 128 → i < n
    → h' ≡ compress h (padded (take (length s - 128 * i) (drop (128 * i) s))) (t + 128 * i + 128) false
    → absorbed (n - i) h (t + 128 * i) (drop (128 * i) s) ≡ r
    → absorbed (n - (i + 1)) h' (t + 128 * (i + 1)) (drop (128 * (i + 1)) s) ≡ r
unfolding absorbed
absorb-next s h h' r t i n en k eh e =
    let d = drop (128 * i) s in
    let ek : n - i ≡ suc (n - (i + 1)) = omega arith in
    let et : t + 128 * (i + 1) ≡ t + 128 * i + 128 = omega arith in
    let ei : 128 * (i + 1) ≡ 128 * i + 128 = omega arith in
    let lb : length (take 128 d) ≡ 128 = simp (length-take, length-drop) (omega arith) in
    let eb : padded d ≡ take 128 d = sym (padded-take d) ∙ filled-full 0 128 (take 128 d) lb in
    rw (eh, rest_lent s (128 * i), eb, et, ei, ← drop-drop 128 (128 * i) s) (rw ek at e)

pub absorb-last : (s h h' h₀ : List ℕ) (t i n : ℕ) → n ≡ (length s - 1) / 128 → i ≡ n
    → h' ≡ compress h (padded (take (length s - 128 * n) (drop (128 * n) s))) (t + length s) true
    → absorbed (n - i) h (t + 128 * i) (drop (128 * i) s) ≡ absorbed n h₀ t s
    → h' ≡ absorbed ((length s - 1) / 128) h₀ t s
unfolding absorbed
absorb-last s h h' h₀ t i n en ei eh e =
    let ek : n - i ≡ 0 = omega arith in
    let et : t + 128 * n + (length s - 128 * n) ≡ t + length s = omega arith in
    let e' = rw (ek, ei) at e in
    let e₂ = rw (length-drop (128 * n) s, et) at e' in
    rw (← en) (eh ∙ rw (rest_lent s (128 * n)) e₂)

length-absorbed : (k : ℕ) (h : List ℕ) (t : ℕ) (d : List ℕ) → length (absorbed k h t d) ≡ 8
unfolding absorbed
length-absorbed zero h t d = length-compress h (padded d) (t + length d) true
length-absorbed (suc k) h t d = length-absorbed k (compress h (take 128 d) (t + 128) false) (t + 128) (drop 128 d)

absorbed-next : (k : ℕ) (h d : List ℕ) (t : ℕ) → absorbed (suc k) h t d
    ≡ absorbed k (compress h (take 128 d) (t + 128) false) (t + 128) (drop 128 d)
unfolding absorbed
absorbed-next k h d t = refl

length-hashed : (key text : List ℕ) (nn : ℕ) → length (hashed key text nn) ≡ 8
unfolding hashed
length-hashed key text nn =
    length-absorbed ((length (with_key key text) - 1) / 128) (start_chain (length key) nn) 0 (with_key key text)

nothing : (s : List ℕ) → length s ≡ 0 → s ≡ []
nothing [] e = refl
nothing (b ∷ s) e = absurd (omega arith)

with_key-some : (key text : List ℕ) → (length key ≡ 0 → ⊥) → with_key key text ≡ padded key ++ text
unfolding with_key
with_key-some [] text n = absurd (n refl)
with_key-some (b ∷ key) text n = refl

-- ---- no key; a key alone; both

pub plain-is : (key text h r : List ℕ) (nn : ℕ) → length key ≡ 0 → h ≡ start_chain (length key) nn
    → r ≡ absorbed ((length text - 1) / 128) h 0 text → r ≡ hashed key text nn
unfolding hashed with_key
plain-is [] text h r nn e eh er = rw (er, eh)
plain-is (b ∷ key) text h r nn e eh er = absurd (omega arith)

module _ (key text h : List ℕ) (nn : ℕ) (some : length key ≡ 0 → ⊥) (short : length key ≤ 64)
    (eh : h ≡ start_chain (length key) nn) where
  with_key-is : with_key key text ≡ padded key ++ text
  with_key-is = with_key-some key text some

  long : length (padded key) ≡ 128
  long = length-filled 0 128 key

  pub alone-is : {r : List ℕ} → length text ≡ 0 → r ≡ compress h (padded key) 128 true
      → r ≡ hashed key text nn
  unfolding hashed absorbed
  alone-is {r} et er =
      let st = start_chain (length key) nn in
      let p = padded key in
      let e : with_key key text ≡ p = with_key-is ∙ ap (λ (l : List ℕ). p ++ l) (nothing text et) ∙ append-nil p in
      let last : absorbed 0 st 0 p ≡ compress st p 128 true =
      ap (λ (n : ℕ). compress st (padded p) (0 + n) true) long
      ∙ ap (λ (l : List ℕ). compress st l 128 true) (filled-full 0 128 p long) in
      er ∙ ap (λ (l : List ℕ). compress l p 128 true) eh
      ∙ sym (ap (λ (l : List ℕ). absorbed ((length l - 1) / 128) st 0 l) e
      ∙ ap (λ (n : ℕ). absorbed ((n - 1) / 128) st 0 p) long ∙ last)

  pub both-are : {c r : List ℕ} → (length text ≡ 0 → ⊥) → c ≡ compress h (padded key) 128 false
      → r ≡ absorbed ((length text - 1) / 128) c 128 text
      → r ≡ hashed key text nn
  unfolding hashed
  both-are {c} {r} ht ec er =
      let p = padded key in
      let ll : length (p ++ text) ≡ 128 + length text = rw (length-append, long) in
      let ek : (length (p ++ text) - 1) / 128 ≡ suc ((length text - 1) / 128) = rw ll (omega arith) in
      let st = start_chain (length key) nn in
      let k = (length text - 1) / 128 in
      let next : absorbed (suc k) st 0 (p ++ text) ≡ absorbed k (compress st p 128 false) 128 text =
      absorbed-next k st (p ++ text) 0 ∙ rw (take_at p text 128 long, drop_at p text 128 long) in
      er ∙ rw (ec, eh, with_key-is, ek) (sym next)

-- ---- the digest

length-chain : (key text : List ℕ) (nn : ℕ) → length (unwords 8 (hashed key text nn)) ≡ 64
length-chain key text nn = length-unwords 8 (hashed key text nn) ∙ ap (λ (n : ℕ). 8 * n) (length-hashed key text nn)

-- the whole of it
pub length-digest : (key text : List ℕ) (n : ℕ) → n ≤ 64 → length (digest key text n) ≡ n
unfolding digest
length-digest key text n h = length-take-le n (unwords 8 (hashed key text n)) (omega (arith, length-chain key text n))

pub digest-is : (key text room out h : List ℕ) → length room ≤ 64 → h ≡ hashed key text (length room)
    → out ≡ sets room 0 (unwords 8 h) → out ≡ digest key text (length room)
unfolding digest
digest-is key text room out h k eh eo =
    eo ∙ ap (λ (l : List ℕ). sets room 0 (unwords 8 l)) eh
    ∙ sets-whole room (unwords 8 (hashed key text (length room)))
    (omega (arith, length-chain key text (length room)))

-- what is not refused
pub record Allowed (key text room : ℕ) : Type 0 where
  pub key-most : key ≤ 64
  pub text-most : text ≤ 1048576
  pub room_most : room ≤ 64

pub allowed : (key text room : ℕ) → Clear (rows key text room) → Allowed key text room
allowed key text room (k, (t, (some, (r, none)))) =
    record { key-most = ltb-false _ _ k; text-most = ltb-false _ _ t; room_most = ltb-false _ _ r }

pub digesting-done : (key text room : List ℕ) → length key ≤ 64 → length text ≤ 1048576 → (length room ≡ 0 → ⊥)
    → length room ≤ 64
    → digesting key text room ≡ answered 0 (digest key text (length room))
unfolding digesting
digesting-done key text room hk ht h0 h64 = simp (le-ltb _ _ hk, le-ltb _ _ ht, ne_eqb _ _ h0, le-ltb _ _ h64)
