use Rattle.generate_run.specs.Draws.{after_three}
use Rattle.generate_run.specs.Events.{schema, events_of}
use Rattle.generate_run.specs.Rules.{start, rule_of}
use Rattle.generate_run.proofs.Turns.{carried}
use Rattle.event_schema.specs.Events.{IsEvent}
use Rattle.rule_lowering.specs.TreeOf.{tree_of}
use Rattle.rule_model.proofs.Iffs.{iff_back}
use Rattle.rule_model.specs.Matching.{Matches}
use Rattle.generate_run.proofs.Alike.{decided, told, one_line}
use Rattle.generate_run.specs.Lines.{line_of, set_in}
use Rattle.generate_run.specs.Subjects.{IsStandard}
use Rattle.generate_run.proofs.laws.generated_lines.Goals as goal

pub returns-clause-some : goal.returns-clause-some
returns-clause-some c = λ seed count.
    let limits = c.standard-limits.result in
    let standard : IsStandard limits = record {
      leaves = c.standard-limits.ensures.leaves;
      sql_depth = c.standard-limits.ensures.sql_depth;
      lucene_depth = c.standard-limits.ensures.lucene_depth;
      lucene_clauses = c.standard-limits.ensures.lucene_clauses;
      query_bytes = c.standard-limits.ensures.query_bytes;
    } in
    let s = c.seeds_are_subjects.ensures limits seed standard in
    let t = tree_of schema (rule_of seed) in
    let events = c.generated_events.ensures.events (after_three seed) count in
    let found = decided (λ row. Matches schema.fields row (rule_of seed)) (λ row. c.matches_or_not.ensures schema.fields row (rule_of seed)) (events_of seed count) in
    let each = carried (IsEvent schema.fields) (λ row is. iff_back (s.means row is)) (events_of seed count) found.0 events found.1 in (
      line_of seed count (set_in found.0) (set_in found.0) (set_in found.0),
      told limits seed count events s.means (c.law.ensures.query limits schema t start s.named s.sound s.sqlite)
          (c.law-2.ensures.query limits schema t start s.named s.sound s.lucene) found.0 each,
    )

pub returns-clause-one : goal.returns-clause-one
returns-clause-one c = λ seed count line other a b. one_line c.standard-limits.result seed count line other a b
