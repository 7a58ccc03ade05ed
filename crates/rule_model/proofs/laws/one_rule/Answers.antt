use Rattle.rule_model.proofs.OneRule.{rule_one}
use Rattle.rule_model.proofs.laws.one_rule.Goals as goal

pub returns : goal.returns
returns c = rule_one c.one_tests.ensures c.one_condition.ensures
