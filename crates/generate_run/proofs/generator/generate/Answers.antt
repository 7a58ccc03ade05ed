use Rattle.std.proofs.Common.{◌≡◌, ◌∙◌, ℕ, ap, refl, sym, subst}
use Rattle.std.proofs.lemmas.Result.{IfOk-weaker}
use Rattle.backend_core.specs.View.{tree_view}
use Rattle.detection_eval.specs.Ready.{StandsFor}
use Rattle.generate_run.specs.Draws.{after_three}
use Rattle.generate_run.specs.Events.{schema, events_from, events_of}
use Rattle.generate_run.specs.Rules.{rule_of}
use Rattle.rule_lowering.specs.TreeOf.{tree_of}
use Rattle.rule_model.specs.Plain.{PlainRule, rule_view}
use Rattle.generate_run.proofs.Alike.{subject_at, counts_at}
use Rattle.generate_run.specs.Lines.{IsGenerated, line_of}
use Rattle.generate_run.specs.Subjects.{IsStandard}
use Rattle.generate_run.proofs.generator.generate.Goals as goal

pub count_drawn-requires-clause-subject : goal.count_drawn-requires-clause-subject
count_drawn-requires-clause-subject c =
    let limits = c.standard-limits.result in
    let standard : IsStandard limits = record {
      leaves = c.standard-limits.ensures.leaves;
      sql_depth = c.standard-limits.ensures.sql_depth;
      lucene_depth = c.standard-limits.ensures.lucene_depth;
      lucene_clauses = c.standard-limits.ensures.lucene_clauses;
      query_bytes = c.standard-limits.ensures.query_bytes;
    } in
    subject_at limits c.args.seed c.in_ok-schema.schema (rule_view c.in_ok-rule.rule) (tree_view c.in_ok-tree.tree) c.in_ok-schema.ensures.ok c.in_ok-rule.ensures.ok c.in_ok-tree.ensures.ok
    (c.seeds_are_subjects.ensures limits c.args.seed standard)

pub count_drawn-requires-clause-judges : goal.count_drawn-requires-clause-judges
count_drawn-requires-clause-judges c =
    let fields = c.in_ok-schema.schema.fields in
    c.in_ok-judge.ensures.ok fields (rule_view c.in_ok-rule.rule)
    (subst (λ (r : PlainRule). StandsFor fields r c.in_ok-ready.ready) (sym c.in_ok-rule.ensures.ok) c.in_ok-ready.ensures.ok)

pub returns-clause-ok : goal.returns-clause-ok
returns-clause-ok c =
    let limits = c.standard-limits.result in
    let standard : IsStandard limits = record {
      leaves = c.standard-limits.ensures.leaves;
      sql_depth = c.standard-limits.ensures.sql_depth;
      lucene_depth = c.standard-limits.ensures.lucene_depth;
      lucene_clauses = c.standard-limits.ensures.lucene_clauses;
      query_bytes = c.standard-limits.ensures.query_bytes;
    } in
    let seed = c.args.seed in
    let counts = c.in_ok-counts.counts in
    let counted = counts_at (tree_view c.in_ok-tree.tree) (tree_of schema (rule_of seed)) (events_from c.after_three.result c.args.events) (events_of seed c.args.events) counts
    c.in_ok-tree.ensures.ok (ap (λ (s : ℕ). events_from s c.args.events) c.after_three.ensures) c.in_ok-counts.ensures.counts in
    let line = line_of seed c.args.events counts.rule counts.sqlite counts.lucene in
    IfOk-weaker c.write_line.result (λ bytes. bytes ≡ line) (IsGenerated seed c.args.events)
    (λ bytes is. subst (IsGenerated seed c.args.events) (sym is) (c.lines_follow.ensures limits seed c.args.events counts standard counted)) c.write_line.ensures.ok
