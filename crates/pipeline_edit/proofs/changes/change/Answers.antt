use Rattle.rule_model.specs.Plain.{rule_view}
use Rattle.pipeline_model.specs.declared.step.Action.TheVariants.{Add}
use Rattle.pipeline_limits.specs.Sizes.{grown_refusal}
use Rattle.pipeline_edit.specs.Added.{with_condition}
use Rattle.pipeline_edit.proofs.Acting.{acted_as, by_size}
use Rattle.pipeline_edit.proofs.changes.change.Goals as goal

pub returns-in-Add : goal.returns-in-Add
returns-in-Add c =
    let made = with_condition c.in-Add.items c.in-Add.negated (rule_view c.args.rule) in
    acted_as c.args.limits.now c.args.step.now (Add c.in-Add.items c.in-Add.negated) (rule_view c.args.rule) c.add_condition.result c.in-Add.is
    (by_size made (grown_refusal c.args.limits.now c.args.rule.head.place made.detections) c.add_condition.result c.add_condition.ensures)
