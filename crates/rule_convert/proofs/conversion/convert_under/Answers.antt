use Rattle.rule_model.specs.Plain.{rule_view}
use Rattle.rule_convert.proofs.Judging.{unfit_under, fits_under}
use Rattle.rule_convert.proofs.conversion.convert_under.Goals as goal

pub returns-in-Err : goal.returns-in-Err
returns-in-Err g c =
    unfit_under g.B.Lacking.missing g.B.Backend.text g.B.Backend.too_deep c.args.limits.now (rule_view c.args.rule.now) c.args.schema.now _ c.in-Err.unfit c.in-Err.ensures

pub returns-in-Ok : goal.returns-in-Ok
returns-in-Ok g c =
    fits_under g.B.Lacking.missing g.B.Backend.text g.B.Backend.too_deep c.args.limits.now (rule_view c.args.rule.now) c.args.schema.now _ _ c.write_rule.result c.in-Ok.ensures c.write_rule.ensures
