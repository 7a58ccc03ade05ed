use Rattle.std.proofs.Common.{◌≡◌, List, subst}
use Rattle.rule_detections.specs.declared.detection.Detection.{Detection}
use Rattle.pipeline_fill.specs.Changed.{changed_detections}
use Rattle.pipeline_fill.specs.Grown.{change_refusal}
use Rattle.pipeline_fill.proofs.Unneeded.{judged_same}
use Rattle.pipeline_fill.proofs.changed_rule.change_within.Goals as goal

pub returns : goal.returns
returns c =
    let known = c.vars_for-known.result.now in
    let same : changed_detections known c.args.step.now c.args.detections ≡ changed_detections c.args.vars.now c.args.step.now c.args.detections =
    subst (λ (ds : List Detection). changed_detections known c.args.step.now ds ≡ changed_detections c.args.vars.now c.args.step.now ds) c.as_slice.ensures (c.vars_for-known.ensures.same c.args.step.now) in
    let refused : change_refusal c.args.limits.now known c.args.step.now c.args.place c.args.detections ≡ change_refusal c.args.limits.now c.args.vars.now c.args.step.now c.args.place c.args.detections =
    subst (λ (ds : List Detection). change_refusal c.args.limits.now known c.args.step.now c.args.place ds ≡ change_refusal c.args.limits.now c.args.vars.now c.args.step.now c.args.place ds) c.as_slice.ensures
    (c.vars_for-known.ensures.refused c.args.limits.now c.args.step.now c.args.place) in
    judged_same _ _ _ _ c.change_under.result same refused c.change_under.ensures
