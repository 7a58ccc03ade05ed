use Rattle.std.proofs.Common.{◌≡◌, ◌∙◌}
use Rattle.backend_core.specs.View.{tree_view}
use Rattle.generate_run.specs.Draws.{after_three}
use Rattle.generate_run.specs.Events.{events_from}
use Rattle.rule_model.specs.Plain.{rule_view}
use Rattle.generate_run.proofs.Alike.{subject_at, each_at}
use Rattle.generate_run.specs.Subjects.{IsStandard, IsSubject}
use Rattle.tests_of_queries.proofs.comparing.answers_by.Goals as goal

pub compare-requires-clause-named : goal.compare-requires-clause-named
compare-requires-clause-named g c =
    let limits = c.standard-limits.result in
    let standard : IsStandard limits = record {
      leaves = c.standard-limits.ensures.leaves;
      sql_depth = c.standard-limits.ensures.sql_depth;
      lucene_depth = c.standard-limits.ensures.lucene_depth;
      lucene_clauses = c.standard-limits.ensures.lucene_clauses;
      query_bytes = c.standard-limits.ensures.query_bytes;
    } in
    let subject : IsSubject limits c.in_ok-schema.schema (rule_view c.in_ok-rule.rule) (tree_view c.in_ok-tree.tree) =
    subject_at limits 0 c.in_ok-schema.schema (rule_view c.in_ok-rule.rule) (tree_view c.in_ok-tree.tree) c.in_ok-schema.ensures.ok c.in_ok-rule.ensures.ok c.in_ok-tree.ensures.ok
    (c.seeds_are_subjects.ensures limits 0 standard) in
    subject.named

pub compare-requires-clause-sound : goal.compare-requires-clause-sound
compare-requires-clause-sound g c =
    let limits = c.standard-limits.result in
    let standard : IsStandard limits = record {
      leaves = c.standard-limits.ensures.leaves;
      sql_depth = c.standard-limits.ensures.sql_depth;
      lucene_depth = c.standard-limits.ensures.lucene_depth;
      lucene_clauses = c.standard-limits.ensures.lucene_clauses;
      query_bytes = c.standard-limits.ensures.query_bytes;
    } in
    let subject : IsSubject limits c.in_ok-schema.schema (rule_view c.in_ok-rule.rule) (tree_view c.in_ok-tree.tree) =
    subject_at limits 0 c.in_ok-schema.schema (rule_view c.in_ok-rule.rule) (tree_view c.in_ok-tree.tree) c.in_ok-schema.ensures.ok c.in_ok-rule.ensures.ok c.in_ok-tree.ensures.ok
    (c.seeds_are_subjects.ensures limits 0 standard) in
    subject.sound

pub compare-requires-clause-events : goal.compare-requires-clause-events
compare-requires-clause-events g c =
    each_at c.in_ok-schema.schema c.as_slice.result.now (events_from c.after_three.result c.args.count) c.in_ok-schema.ensures.ok (c.as_slice.ensures.value ∙ c.in_ok-events.ensures.ok)
    (c.generated_events.ensures.events c.after_three.result c.args.count)
