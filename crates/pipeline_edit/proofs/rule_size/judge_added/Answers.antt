use Rattle.pipeline_edit.proofs.Sizing.{room_judged}
use Rattle.pipeline_edit.proofs.rule_size.judge_added.Goals as goal

pub returns : goal.returns
returns c = room_judged c.args.limits.now c.args.place c.args.detections.now c.args.items.now c.has_room_for.result c.must.result c.has_room_for.ensures c.must.ensures.judged
