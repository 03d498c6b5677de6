use Rattle.std.proofs.Common.{rules, lit≤, Err, ◌≡◌}
use Rattle.pack.proofs.Steps.{words-answer, words-within, songs-answer, songs-within, songs-on}
use Rattle.pack.proofs.walk.Goals as goal

pub returns-in_err-words : goal.returns-in_err-words
returns-in_err-words c =
    let e : c.from_residual.result ≡ Err c.in_err-words.field-0.0 = search rules in
    rw e (words-answer c.counted.ensures c.in_err-words.was)

pub counted-requires-2 : goal.counted-requires-2
counted-requires-2 c = (words-within c.counted.ensures c.in_ok-words.was, lit≤ tt)

pub returns-in_err-songs : goal.returns-in_err-songs
returns-in_err-songs c =
    let e : c.from_residual-in_err-songs.result ≡ Err c.in_err-songs.field-0.0 = search rules in
    rw e (songs-answer c.counted.ensures c.in_ok-words.was c.counted-2.ensures c.in_err-songs.was)

pub shuffle-requires : goal.shuffle-requires
shuffle-requires c = songs-within c.counted.ensures c.in_ok-words.was c.counted-2.ensures c.in_ok-songs.was

pub returns : goal.returns
returns c =
    songs-on c.counted.ensures c.in_ok-words.was c.counted-2.ensures c.in_ok-songs.was c.shuffle.ensures
