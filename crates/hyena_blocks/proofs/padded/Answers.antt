use Rattle.words.specs.Block.{value}
use Rattle.hyena_blocks.proofs.Steps.{padded-is}
use Rattle.hyena_blocks.proofs.padded.Goals as goal

pub returns : goal.returns
returns c =
    padded-is _ c.args.n (value c.args.x) c.store.ensures c.load_pad.ensures
