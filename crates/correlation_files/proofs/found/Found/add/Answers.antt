use Rattle.correlation_files.proofs.Growing.{rule_kept, correlation_kept}
use Rattle.correlation_files.proofs.found.Found.add.Goals as goal

pub returns-in-Rule-clause-keeps : goal.returns-in-Rule-clause-keeps
returns-in-Rule-clause-keeps c =
    rule_kept c.args.file.now c.args.taken c.in-Rule.rule c.args.self.now c.add_rule.new.self c.add_rule.result c.in-Rule.is c.add_rule.ensures.rules c.add_rule.ensures.ready c.add_rule.ensures.heads c.add_rule.ensures.correlations

pub returns-in-Correlation-clause-keeps : goal.returns-in-Correlation-clause-keeps
returns-in-Correlation-clause-keeps c =
    correlation_kept c.args.file.now c.args.taken c.in-Correlation.correlation c.args.self.now c.add_correlation.new.self c.add_correlation.result c.in-Correlation.is
    c.add_correlation.ensures.rules c.add_correlation.ensures.ready c.add_correlation.ensures.heads c.add_correlation.ensures.correlations
