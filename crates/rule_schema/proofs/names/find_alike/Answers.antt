use Rattle.std.proofs.Common.{◌∙◌}
use Rattle.sig_base.specs.Folding.{folded}
use Rattle.rule_schema.proofs.Gathering.{position_place}
use Rattle.rule_schema.proofs.names.find_alike.Goals as goal

pub returns : goal.returns
returns c = c.position_alike.ensures ∙ position_place (folded c.args.name.now) c.args.names.now
