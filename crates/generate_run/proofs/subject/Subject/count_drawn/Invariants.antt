use Rattle.std.proofs.Common.{◌≡◌, ◌≤◌, ◌-◌}
use Rattle.backend_core.specs.Holds.{TreeHolds}
use Rattle.backend_core.specs.View.{tree_view}
use Rattle.detection_eval.specs.Ready.{JudgesFor}
use Rattle.generate_run.specs.Draws.{after_events}
use Rattle.generate_run.specs.Events.{events_from}
use Rattle.rule_model.specs.Plain.{rule_view}
use Rattle.generate_run.specs.Lines.{AreCounts}
use Rattle.generate_run.proofs.subject.Subject.count_drawn.Given as goal

abbrev pub invariant-loop-left : goal.invariant-loop-left
invariant-loop-left l = record {
  few : l.left ≤ l.count;
  state : l.state ≡ after_events l.fn.state (l.count - l.left);
  counts : AreCounts (λ row. TreeHolds row (tree_view l.self.tree.now)) (events_from l.fn.state (l.count - l.left)) l.counts;
  judges : JudgesFor l.self.schema.now.fields (rule_view l.self.rule.now) l.judge;
}

abbrev pub decreases-loop-left : goal.decreases-loop-left
decreases-loop-left l = l.left
