use Rattle.std.specs.Prelude.{option_map}
use Rattle.rule_model.specs.Plain.{rule_view}
use Rattle.rule_convert.proofs.Judging.{stands_open, stands_filled}
use Rattle.rule_convert.proofs.conversion.convert_rule.Goals as goal

pub returns-in-Ok : goal.returns-in-Ok
returns-in-Ok g c =
    stands_filled g.B.Lacking.missing g.B.Backend.text g.B.Backend.too_deep c.args.limits.now (option_map (λ s. s.now) c.args.given) (rule_view c.args.rule.now) _ _ c.convert_filled.result
    c.in-Ok.ensures c.convert_filled.ensures

pub returns-in-Err : goal.returns-in-Err
returns-in-Err g c =
    stands_open g.B.Lacking.missing g.B.Backend.text g.B.Backend.too_deep c.args.limits.now (option_map (λ s. s.now) c.args.given) (rule_view c.args.rule.now) _ c.in-Err.open c.in-Err.ensures
