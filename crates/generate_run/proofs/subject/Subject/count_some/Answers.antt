use Rattle.std.proofs.Common.{◌≡◌, ◌∙◌, ap}
use Rattle.backend_core.specs.Holds.{TreeHolds}
use Rattle.backend_core.specs.View.{tree_view}
use Rattle.event_schema.specs.Events.{IsEvent}
use Rattle.rule_model.specs.Matching.{Matches}
use Rattle.rule_model.specs.Plain.{rule_view}
use Rattle.generate_run.proofs.Alike.{counted}
use Rattle.generate_run.specs.Lines.{set_in}
use Rattle.generate_run.proofs.subject.Subject.count_some.Goals as goal

pub returns-in_err-by_rule-clause-judges : goal.returns-in_err-by_rule-clause-judges
returns-in_err-by_rule-clause-judges c =
    c.select_by_rule.ensures.same c.args.self.now.schema.now.fields (rule_view c.args.self.now.rule.now) c.requires.judges

pub returns-in_err-by_sqlite-clause-judges : goal.returns-in_err-by_sqlite-clause-judges
returns-in_err-by_sqlite-clause-judges c =
    c.select_by_rule.ensures.same c.args.self.now.schema.now.fields (rule_view c.args.self.now.rule.now) c.requires.judges

pub returns-in_err-by_lucene-clause-judges : goal.returns-in_err-by_lucene-clause-judges
returns-in_err-by_lucene-clause-judges c =
    c.select_by_rule.ensures.same c.args.self.now.schema.now.fields (rule_view c.args.self.now.rule.now) c.requires.judges

pub returns-clause-counts : goal.returns-clause-counts
returns-clause-counts c =
    let schema = c.args.self.now.schema.now in
    let rule = rule_view c.args.self.now.rule.now in
    counted (IsEvent schema.fields) (λ row. TreeHolds row (tree_view c.args.self.now.tree.now)) (λ row. Matches schema.fields row rule) c.args.events.now
    c.in_ok-by_rule.by_rule.items c.in_ok-by_sqlite.by_sqlite.items c.in_ok-by_lucene.by_lucene.items _ c.requires.subject.means c.requires.events
    (c.in_ok-by_rule.ensures.flags schema.fields rule c.requires.judges) c.in_ok-by_sqlite.ensures.flags c.in_ok-by_lucene.ensures.flags
    (c.count_set.ensures ∙ ap set_in c.as_slice.ensures.value) (c.count_set-2.ensures ∙ ap set_in c.as_slice-2.ensures.value) (c.count_set-3.ensures ∙ ap set_in c.as_slice-3.ensures.value)

pub returns-clause-judges : goal.returns-clause-judges
returns-clause-judges c = c.select_by_rule.ensures.same c.args.self.now.schema.now.fields (rule_view c.args.self.now.rule.now) c.requires.judges
