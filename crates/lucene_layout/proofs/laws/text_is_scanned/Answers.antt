use Rattle.lucene_layout.proofs.Scanned.{group_scanned}
use Rattle.lucene_layout.proofs.laws.text_is_scanned.Goals as goal

pub returns : goal.returns
returns c = group_scanned
