use Rattle.generate_run.proofs.Wholeness.{rule_whole}
use Rattle.generate_run.proofs.laws.generated_rule.Goals as goal

pub returns : goal.returns
returns c = rule_whole
