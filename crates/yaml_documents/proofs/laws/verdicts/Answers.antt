use Rattle.yaml_documents.proofs.Judging.{each_verdict, never_both}
use Rattle.yaml_documents.proofs.laws.verdicts.Goals as goal

pub returns-clause-each : goal.returns-clause-each
returns-clause-each c = each_verdict

pub returns-clause-never_both : goal.returns-clause-never_both
returns-clause-never_both c = never_both
