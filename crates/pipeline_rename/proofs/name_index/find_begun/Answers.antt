use Rattle.std.proofs.Common.{◌∙◌}
use Rattle.pipeline_rename.specs.Names.{begins}
use Rattle.pipeline_rename.proofs.Fronts.{entry_position}
use Rattle.pipeline_rename.proofs.name_index.find_begun.Goals as goal

pub returns-in-None-clause-ok : goal.returns-in-None-clause-ok
returns-in-None-clause-ok c = c.first_front.ensures ∙ entry_position (λ from. begins from c.args.name.now) c.args.pairs.now
