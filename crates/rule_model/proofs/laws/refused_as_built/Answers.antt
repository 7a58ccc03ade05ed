use Rattle.rule_model.proofs.AsBuilt.{rule_as_built, lone_as_built}
use Rattle.rule_model.proofs.laws.refused_as_built.Goals as goal

pub returns : goal.returns
returns c = record { rule = rule_as_built; lone = lone_as_built }
