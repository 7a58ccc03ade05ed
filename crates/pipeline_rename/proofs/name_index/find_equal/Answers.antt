use Rattle.std.proofs.Common.{◌∙◌}
use Rattle.std.specs.Str.{bytes_eq}
use Rattle.pipeline_rename.proofs.Fronts.{entry_position}
use Rattle.pipeline_rename.proofs.name_index.find_equal.Goals as goal

pub returns-in-None : goal.returns-in-None
returns-in-None c = c.first_equal.ensures ∙ entry_position (λ from. bytes_eq from c.args.name.now) c.args.pairs.now
