use Rattle.pipeline_edit.proofs.Sizing.{capped}
use Rattle.pipeline_edit.proofs.rule_size.fits.Goals as goal

pub returns : goal.returns
returns c = capped _ c.count_detections.result c.args.limits.now.grown c.count_detections.ensures c.args.limits.now.grown_in.1
