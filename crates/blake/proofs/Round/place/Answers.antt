use Rattle.std.proofs.Common.{arith, mod-lt}
use Rattle.blake.proofs.Mixing.{place_is}
use Rattle.blake.proofs.Round.place.Goals as goal

pub returns : goal.returns
returns c = (place_is c.args.self.now.r c.args.i c.requires, mod-lt _ (omega arith))
