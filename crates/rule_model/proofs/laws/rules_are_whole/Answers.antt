use Rattle.rule_model.proofs.WholeRule.{rule_whole}
use Rattle.rule_model.proofs.laws.rules_are_whole.Goals as goal

pub returns : goal.returns
returns c = λ unbuilt. rule_whole unbuilt (c.plain_tests.ensures unbuilt) c.some_test.ensures c.keyword_tests.ensures
