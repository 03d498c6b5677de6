use Rattle.std.proofs.Common.{◌≡◌, ℕ, ◌+◌, ◌-◌, ◌<◌, List, length, set, refl, ap, ◌∙◌, arith, length-set}
use Rattle.chacha.specs.ChaCha.{start_state, block_from, blocks}
use Rattle.chacha.proofs.Rounds.{start-set, length-start}
use Rattle.chacha.proofs.Streams.{stream-first, stream-next, stream_end}
use Rattle.chacha.proofs.stream_from.Goals as goal

pub loop-i-init : goal.loop-i-init
loop-i-init c =
    let a = c.args in
    let e = c.start_of-s.ensures in (
      ap length e ∙ length-start _ _ _,
      λ x. ap (λ (s : List ℕ). set s 12 x) e ∙ start-set _ _ 0 x,
      omega arith,
      stream-first a.key.now a.nonce.now a.text.now a.counter _ refl,
    )

pub loop-i-preserved : goal.loop-i-preserved
loop-i-preserved c =
    let l = c.loop-i in
    let a = c.args in
    let e = l.invariant.1 l.c in
    let h : l.i < blocks (length a.text.now) = omega (arith, c.loop-i-test.true, c.div_ceil-i-end.ensures) in (
      length-set l.s 12 l.c ∙ l.invariant.0,
      λ x. ap (λ (s : List ℕ). set s 12 x) e ∙ start-set _ _ l.c x,
      omega (arith, l.invariant.2),
      stream-next a.key.now a.nonce.now l.text _ _ _ a.counter l.i _ h
          (c.block_of-k.ensures ∙ ap block_from e
          ∙ ap (λ (x : ℕ). block_from (start_state a.key.now a.nonce.now x)) l.invariant.2) c.add.ensures l.invariant.3,
    )

pub returns : goal.returns
returns c =
    let l = c.loop-i in
    let a = c.args in
    let e : blocks (length a.text.now) - l.i ≡ 0 = omega (arith, c.loop-i-test.false, c.div_ceil-i-end.ensures) in
    let f : l.i ≡ blocks (length a.text.now) = omega (arith, c.loop-i.auto.i-end, c.div_ceil-i-end.ensures, e) in (
      stream_end a.key.now a.nonce.now l.text _ (a.counter + l.i) _ _ e l.invariant.3,
      omega (arith, f, l.invariant.2),
    )
