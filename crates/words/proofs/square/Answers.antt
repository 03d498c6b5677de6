use mathlib.Core.Path.{refl}
use native.Mathlib.Omega.{arith}
use Rattle.std.proofs.Common.{◌≡◌, length, rules}
use Rattle.std.proofs.lemmas.Option.{slice_get-get_or}
use Rattle.words.specs.Square.{Squared}
use Rattle.words.proofs.square.Goals as goal

pub returns : goal.returns
unfolding Squared
returns g c =
    let long : length c.args.v.now ≡ 16 = search rules in
    let at = slice_get-get_or c.args.v.now in (
      c.take-a0.result,
      c.take-a1.result,
      c.take-a2.result,
      c.take-a3.result,
      c.take-a0-2.result,
      c.take-a1-2.result,
      c.take-a2-2.result,
      c.take-a3-2.result,
      (
        _,
        _,
        _,
        _,
        at 0 c.index-v-0.result (omega arith),
        at 4 c.index-v-4.result (omega arith),
        at 8 c.index-v-8.result (omega arith),
        at 12 c.index-v-12.result (omega arith),
        c.take-a0.ensures,
      ),
      (
        _,
        _,
        _,
        _,
        at 1 c.index-v-1.result (omega arith),
        at 5 c.index-v-5.result (omega arith),
        at 9 c.index-v-9.result (omega arith),
        at 13 c.index-v-13.result (omega arith),
        c.take-a1.ensures,
      ),
      (
        _,
        _,
        _,
        _,
        at 2 c.index-v-2.result (omega arith),
        at 6 c.index-v-6.result (omega arith),
        at 10 c.index-v-10.result (omega arith),
        at 14 c.index-v-14.result (omega arith),
        c.take-a2.ensures,
      ),
      (
        _,
        _,
        _,
        _,
        at 3 c.index-v-3.result (omega arith),
        at 7 c.index-v-7.result (omega arith),
        at 11 c.index-v-11.result (omega arith),
        at 15 c.index-v-15.result (omega arith),
        c.take-a3.ensures,
      ),
      c.take-a0-2.ensures,
      c.take-a1-2.ensures,
      c.take-a2-2.ensures,
      c.take-a3-2.ensures,
      refl,
    )
