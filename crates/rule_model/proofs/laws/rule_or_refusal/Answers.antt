use Rattle.rule_model.proofs.SomeRule.{rule_some}
use Rattle.rule_model.proofs.laws.rule_or_refusal.Goals as goal

pub returns : goal.returns
returns c = λ unbuilt. rule_some unbuilt (c.tests_or_refusal.ensures unbuilt)
