use Rattle.std.proofs.Common.{◌≡◌, length, rules}
use Rattle.blake.proofs.Hashing.{plain-is, alone-is, both-are}
use Rattle.blake.proofs.hash_of.Goals as goal

pub returns-then-is_empty : goal.returns-then-is_empty
returns-then-is_empty c =
    let e : length c.args.key.now ≡ 0 = search rules in
    plain-is _ _ _ _ _ e c.start_chain-h.ensures c.absorb.ensures

pub returns-then-is_empty-2 : goal.returns-then-is_empty-2
returns-then-is_empty-2 c =
    let some : length c.args.key.now ≡ 0 → ⊥ = search rules in
    let e : length c.args.text.now ≡ 0 = search rules in
    alone-is _ _ _ _ some c.requires.0 c.start_chain-h.ensures e c.compress_in.ensures

pub returns : goal.returns
returns c =
    let some : length c.args.key.now ≡ 0 → ⊥ = search rules in
    let more : length c.args.text.now ≡ 0 → ⊥ = search rules in
    both-are _ _ _ _ some c.requires.0 c.start_chain-h.ensures more c.compress_in-2.ensures c.absorb-2.ensures
