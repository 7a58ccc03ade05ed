use Rattle.lucene_writer.proofs.Texts.{texts_are, and_row}
use Rattle.lucene_writer.proofs.Counted.{opens_are, clauses_are}
use Rattle.lucene_writer.proofs.laws.pieces_are_query.Goals as goal

pub returns : goal.returns
returns c =
    let pattern = c.patterns_are_written.ensures in
    let leaf = c.leaves_are_written.ensures in
    let range = c.ranges_are_written.ensures in
    record {
      text = λ schema t sound. (texts_are schema.fields pattern leaf range t sound).whole;
      opens = λ most schema t sound. opens_are schema.fields most t sound;
      clauses = λ most schema t sound.
          clauses_are schema.fields most (λ u s. (texts_are schema.fields pattern leaf range u s).denies) (λ us s. (and_row schema.fields pattern leaf range us s).1) t sound;
    }
