use Rattle.yaml_blocks.proofs.Answered.{each_answered, one_answer}
use Rattle.yaml_blocks.proofs.laws.answers.Goals as goal

pub returns-clause-each : goal.returns-clause-each
returns-clause-each c = each_answered

pub returns-clause-one : goal.returns-clause-one
returns-clause-one c = one_answer
