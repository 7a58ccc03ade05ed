use Rattle.pipeline_edit.proofs.AddedLaw.{added_decide}
use Rattle.pipeline_edit.proofs.laws.added_items_decide.Goals as goal

pub returns : goal.returns
returns c = λ items negated rule fields row. added_decide fields row items negated rule
