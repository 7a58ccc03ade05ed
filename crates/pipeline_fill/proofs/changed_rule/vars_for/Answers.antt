use Rattle.std.proofs.Common.{[], sym, ◌∙◌}
use Rattle.pipeline_fill.proofs.Unneeded.{detections_same, refusal_same}
use Rattle.pipeline_fill.proofs.changed_rule.vars_for.Goals as goal

pub returns-then-are_filled-clause-same : goal.returns-then-are_filled-clause-same
returns-then-are_filled-clause-same c step = detections_same c.args.vars.now [] step c.args.detections.now (sym c.are_filled.ensures ∙ c.if-are_filled.true)

pub returns-then-are_filled-clause-refused : goal.returns-then-are_filled-clause-refused
returns-then-are_filled-clause-refused c limits step place = refusal_same c.args.vars.now [] limits step place c.args.detections.now (sym c.are_filled.ensures ∙ c.if-are_filled.true)
