use Rattle.std.proofs.Common.{◌≡◌, ℕ, length, take, replicate, length-take-le}
use Rattle.std.proofs.Math.ListN.{length-replicate}
use Rattle.words.specs.Bytes.{over}
use Rattle.hyena.proofs.wipe.Goals as goal

pub returns : goal.returns
unfolding over
returns c =
    let a = c.args in
    let e : c.fill.new.self ≡ replicate (length (take a.n a.room.now)) 0 = c.fill.ensures.after (λ y h. h) in
    let n : length (take a.n a.room.now) ≡ a.n = length-take-le a.n a.room.now c.requires in
    let r : length {A = ℕ} (replicate a.n 0) ≡ a.n = length-replicate a.n 0 in
    rw (e, n, r)
