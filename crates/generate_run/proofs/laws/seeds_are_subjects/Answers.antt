use Rattle.generate_run.specs.Events.{schema}
use Rattle.generate_run.specs.Rules.{rule_of}
use Rattle.generate_run.proofs.Alike.{named}
use Rattle.generate_run.proofs.Shapes.{rule_fits, rule_filled}
use Rattle.generate_run.proofs.Unrefused.{sqlite_none, lucene_none}
use Rattle.generate_run.proofs.laws.seeds_are_subjects.Goals as goal

pub returns : goal.returns
returns c = λ limits seed standard. record {
  named = named schema c.generated_events.ensures.schema;
  sound = c.tree_is_sound.ensures schema (rule_of seed) (c.generated_rule.ensures seed) (rule_filled seed) (rule_fits seed);
  sqlite = sqlite_none limits standard seed;
  lucene = lucene_none limits standard seed;
  means = λ row event. c.tree_means_rule.ensures schema (rule_of seed) row (c.generated_rule.ensures seed) (rule_fits seed) event;
}
