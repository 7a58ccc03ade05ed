use Rattle.std.proofs.Common.{◌≡◌, subst}
use Rattle.sig_base.specs.Judged.{Judged}
use Rattle.pipeline_rename.specs.Names.{names_for}
use Rattle.pipeline_rename.specs.Renamed.{renamed_detections}
use Rattle.pipeline_limits.specs.Sizes.{grown_refusal}
use Rattle.pipeline_rename.proofs.renamed_rule.rename_within.Goals as goal

pub returns : goal.returns
returns c =
    subst (λ step. Judged (λ ds. ds ≡ renamed_detections (names_for step) c.args.detections.items)
    (grown_refusal c.args.limits.now c.args.place (renamed_detections (names_for step) c.args.detections.items)) c.rename_by.result)
    c.in_ok-renaming.ensures.ok c.rename_by.ensures
