use Rattle.lucene_layout.proofs.Selection.{layout_means}
use Rattle.lucene_layout.proofs.laws.layout_selects.Goals as goal

pub returns : goal.returns
returns c = layout_means
