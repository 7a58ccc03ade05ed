use Rattle.pipeline_edit.proofs.Sizing.{capped_sum}
use Rattle.pipeline_edit.proofs.rule_size.fits_with.Goals as goal

pub returns : goal.returns
returns c =
    capped_sum _ _ c.count_detections.result c.count_items.result c.add.result c.args.limits.now.grown c.count_detections.ensures c.count_items.ensures c.add.ensures
    c.args.limits.now.grown_in.1
