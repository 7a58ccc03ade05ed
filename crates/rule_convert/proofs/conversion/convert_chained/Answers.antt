use Rattle.std.specs.Prelude.{option_map}
use Rattle.rule_model.specs.Plain.{rule_view}
use Rattle.rule_convert.specs.Rebuilt.{makes_one}
use Rattle.rule_convert.proofs.Judging.{chain_unmade}
use Rattle.rule_convert.proofs.conversion.convert_chained.Goals as goal

pub convert_rule-requires : goal.convert_rule-requires
convert_rule-requires g c =
    c.whole_rules_stay_whole.ensures c.args.limits.now c.args.pipelines.now (rule_view c.args.rule) (rule_view c.in-Ok.made) c.requires.pipelines c.requires.rule c.in-Ok.ensures

pub returns-in-Ok : goal.returns-in-Ok
returns-in-Ok g c = makes_one (rule_view c.in-Ok.made) c.in-Ok.ensures c.convert_rule.ensures

pub returns-in-Err : goal.returns-in-Err
returns-in-Err g c =
    chain_unmade g.B.Lacking.missing g.B.Backend.text g.B.Backend.too_deep c.args.limits.now c.args.pipelines.now (option_map (λ s. s.now) c.args.given) (rule_view c.args.rule) _
    c.in-Err.fault c.in-Err.ensures
