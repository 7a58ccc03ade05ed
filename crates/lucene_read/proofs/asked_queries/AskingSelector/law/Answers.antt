use Rattle.lucene_lang.specs.Meaning.{selects}
use Rattle.lucene_read.proofs.Refusing.{is_or_not}
use Rattle.lucene_read.proofs.asked_queries.AskingSelector.law.Goals as goal

pub returns : goal.returns
returns c = λ query row. is_or_not (selects row query)
