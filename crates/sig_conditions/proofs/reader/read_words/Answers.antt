use Rattle.sig_conditions.proofs.Places.{words_left}
use Rattle.sig_conditions.proofs.reader.read_words.Goals as goal

pub returns-then-end-words : goal.returns-then-end-words
returns-then-end-words c =
    words_left c.args.depth c.args.words.now _ _ c.in_ok-condition.ensures.reads c.if-end-words.true
