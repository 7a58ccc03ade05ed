use Rattle.pipeline_rename.specs.Names.{names_for}
use Rattle.pipeline_rename.specs.Renamed.{renamed_detections}
use Rattle.pipeline_rename.proofs.Totals.{paid_judged, unfit_judged}
use Rattle.pipeline_rename.proofs.renamed_rule.rename_by.Goals as goal

pub returns-in-Ok : goal.returns-in-Ok
returns-in-Ok c =
    paid_judged c.args.limits.now c.args.place (renamed_detections (names_for c.args.renaming.now.step.now) c.args.detections.items) c.in-Ok.renamed _ _ c.fit_or_grown.result
    c.in-Ok.ensures.ok c.in-Ok.ensures.names c.in-Ok.ensures.tests c.fit_or_grown.ensures

pub returns-in-Err : goal.returns-in-Err
returns-in-Err c = unfit_judged c.args.limits.now c.args.place (renamed_detections (names_for c.args.renaming.now.step.now) c.args.detections.items) c.in-Err.fault c.in-Err.ensures.unfit
