use Rattle.lucene_lang.proofs.Selected.{and_is, or_is}
use Rattle.lucene_lang.proofs.meaning.groups_select.Goals as goal

pub returns : goal.returns
returns c = record { and = and_is; or = or_is }
