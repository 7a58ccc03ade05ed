use Rattle.rule_convert.specs.declared.backend_name.BackendName.TheVariants.{Sqlite, Lucene}
use Rattle.rule_convert.proofs.named.queries_mean_rules.Goals as goal

pub returns : goal.returns
returns c Sqlite = c.queries_mean_rules.ensures
returns c Lucene = c.queries_mean_rules-2.ensures
