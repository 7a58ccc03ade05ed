use Rattle.pipeline_fill.proofs.ReadLemmas.{read_end}
use Rattle.pipeline_fill.proofs.read_texts.read_value.Goals as goal

pub returns-clause-ok : goal.returns-clause-ok
returns-clause-ok c = read_end c.loop-c.parts _ c.loop-c.left.now c.loop-c.invariant.read c.in_default.ensures
