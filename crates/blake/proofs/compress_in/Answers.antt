use Rattle.blake.proofs.Hashing.{compress-is}
use Rattle.blake.proofs.compress_in.Goals as goal

pub returns : goal.returns
returns c =
    compress-is _ _ _ _ _ _ _ _ c.words_of-m.ensures c.vector_of-v.ensures c.rounds_of.ensures c.fold_in.ensures
