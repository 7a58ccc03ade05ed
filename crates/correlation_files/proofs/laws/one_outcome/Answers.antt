use Rattle.correlation_files.proofs.Verdicts.{each_document, one_document, each_file, one_file}
use Rattle.correlation_files.proofs.laws.one_outcome.Goals as goal

pub returns-clause-document : goal.returns-clause-document
returns-clause-document c = each_document c.lone_rules.ensures.each c.one_correlation.ensures.each

pub returns-clause-one_document : goal.returns-clause-one_document
returns-clause-one_document c = one_document c.lone_rules.ensures.one c.one_correlation.ensures.one

pub returns-clause-file : goal.returns-clause-file
returns-clause-file c = each_file (each_document c.lone_rules.ensures.each c.one_correlation.ensures.each) c.verdicts.ensures.each

pub returns-clause-one_file : goal.returns-clause-one_file
returns-clause-one_file c =
    one_file (one_document c.lone_rules.ensures.one c.one_correlation.ensures.one) c.verdicts.ensures.never_both c.one_verdict.ensures.list c.one_verdict.ensures.refusal
