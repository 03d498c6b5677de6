-- The lengths are taken off a whole, one after another, as `try_fold` goes over them.
use mathlib.Core.Path.{◌≡◌, sym, ap, subst}
use mathlib.Core.List.{List, [], ◌∷◌}
use Prim.Native.Nat.{ℕ, ◌+◌, ◌<◌}
use native.Mathlib.Omega.{arith}
use borrow.Author.Tests.{ne_eqb}
use denote.Param.Members.{Mut, Called}
use denote.Ref.{Bor}
use lib.Dec.{eqb}
use Rattle.std.specs.Prelude.{Option, Some, None}
use Rattle.std.specs.declared.ops.ControlFlow.{ControlFlow}
use Rattle.std.specs.ControlFlow.{continue_value}
use Rattle.std.specs.Iterator.{Yields, AlwaysYields, TryFoldTurn, TryFoldsItems}
use Rattle.std.specs.List.{FoldsTo}
use Rattle.std.specs.Option.{MatchOption, option_eq}
use Rattle.std.proofs.lemmas.Iterator.{YieldsList}
use Rattle.words.proofs.Tests.{agree}
use Rattle.lengths.specs.Lengths.{total}

-- how `?` goes on from an option, and what it hands over where it does not
abbrev branches : {E : Type 0} → Option ℕ → ControlFlow E ℕ → Type 0
branches r c = r ≡ continue_value c

abbrev resumes : {E : Type 0} → E → Option ℕ → Type 0
resumes e r = r ≡ None

module _ {S F : Type 0} (E : Type 0) (steps : S → Option (Bor ℕ) → S → Type 0)
    (g : Mut F (ℕ × (Bor ℕ × Unit {0})) (Option ℕ))
    (goes : (f h : F) (left : ℕ) (n : Bor ℕ) (rest : ℕ) → Called g f (left, (n, tt)) (Some rest) h
    → n.now + rest ≡ left)
    (stops : (f h : F) (left : ℕ) (n : Bor ℕ) → Called g f (left, (n, tt)) None h → left < n.now)
  where
    -- what is taken off and what is left are the whole, and the rest of the lengths is still to come
    taken-off : (ns : List ℕ) (xs : List (Bor ℕ)) (s t : S) (p q : F × ℕ) → AlwaysYields steps (λ n. n.now) s ns
        → Yields steps s xs t → FoldsTo (TryFoldTurn g (branches {E = E})) p xs q
        → (ms : List ℕ) × AlwaysYields steps (λ n. n.now) t ms × (total ns + q.1 ≡ p.1 + total ms)
    unfolding total
    taken-off ns [] s t p q a y f =
        (ns, subst (λ u. AlwaysYields steps (λ n. n.now) u ns) y a, rw (ap (λ (w : F × ℕ). w.1) f) (omega arith))
    taken-off [] (x ∷ xs) s t p q a y f = absurd (a x y.0 y.1)
    taken-off (n ∷ ns) (x ∷ xs) s t p q a y f =
        let here = a.1 x y.0 y.1 in
        let more = taken-off ns xs y.0 t f.0 q here.1 y.2 f.2 in
        let called = subst (λ r. Called g p.0 (p.1, (x, tt)) r f.0.0) f.1.2 f.1.1 in
        (more.0, more.1, omega (arith, goes p.0 f.0.0 p.1 x f.0.1 called, here.0, more.2))

    -- nothing is left exactly where the lengths add up to the whole
    pub adds_up : (f : F) (whole : ℕ) (result : Option ℕ) (lengths : List ℕ) (s u : S)
        → YieldsList steps (λ n. n.now) s lengths
        → TryFoldsItems steps g (branches {E = E}) resumes s f whole result u
        → option_eq eqb result (Some 0) ≡ eqb (total lengths) whole
    unfolding total
    adds_up f whole result lengths s u a (xs, o, h, left, (t, y, last), folds, ends) =
        let m = taken-off lengths xs s t (f, whole) (h, left) a.runs y folds in
        by o m.0 m.1 m.2 last ends
      where
        by : (o : Option (Bor ℕ)) (ms : List ℕ) → AlwaysYields steps (λ n. n.now) t ms
            → total lengths + left ≡ whole + total ms → steps t o u
            → MatchOption o (result ≡ Some left) (λ x. (v : Option ℕ) × (k : F) × (e : E)
            × Called g h (left, (x, tt)) v k × (v ≡ None) × (result ≡ None))
            → option_eq eqb result (Some 0) ≡ eqb (total lengths) whole
        by None [] b e l w = rw w (agree left 0 (total lengths) whole (λ z. omega arith) (λ z. omega arith))
        by None (m ∷ ms) b e l w = absurd (b.0 u l)
        by (Some x) [] b e l w = absurd (b x u l)
        by (Some x) (m ∷ ms) b e l (v, k, d, called, broke, resumed) =
            let n : x.now ≡ m = (b.1 x u l).0 in
            let less = stops h k left x (subst (λ r. Called g h (left, (x, tt)) r k) broke called) in
            rw resumed (sym (ne_eqb (total lengths) whole (λ z. omega arith)))
