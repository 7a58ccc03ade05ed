use Rattle.rule_model.proofs.Lone.{each_lone}
use Rattle.rule_model.proofs.laws.lone_rules.Goals as goal

pub returns-clause-each : goal.returns-clause-each
returns-clause-each c = λ unbuilt. each_lone unbuilt (c.rule_or_refusal.ensures unbuilt)

pub returns-clause-one : goal.returns-clause-one
returns-clause-one c = λ u v limits t a b x y. c.one_rule.ensures t a b x.is y.is
