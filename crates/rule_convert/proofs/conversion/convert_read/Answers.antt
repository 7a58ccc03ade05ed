use Rattle.std.specs.Prelude.{option_map}
use Rattle.rule_head.specs.Heads.{rest_of}
use Rattle.rule_model.specs.Plain.{rule_view, rule_with}
use Rattle.rule_model.specs.Rules.{IsRule}
use Rattle.rule_model.specs.declared.rule.Rule.{Rule}
use Rattle.yaml_tree.specs.View.{node_view}
use Rattle.rule_convert.proofs.Judging.{one_read, none_read}
use Rattle.rule_convert.proofs.conversion.convert_read.Goals as goal

pub returns-in-Ok : goal.returns-in-Ok
returns-in-Ok g c =
    let t = node_view c.args.node.now in
    let ps = c.args.pipelines.now in
    one_read g.B.Lacking.missing g.B.Backend.text g.B.Backend.too_deep c.args.limits.now ps (option_map (λ s. s.now) c.args.given) t (rest_of t) (rule_view c.in-Ok.rule)
    c.args.unbuilt.now _ _ c.convert_chained.result (c.heads_are_kept.ensures.made c.args.limits.now ps) (c.heads_are_kept.ensures.refused c.args.limits.now ps)
    c.in-Ok.ensures.judged c.convert_chained.ensures

pub returns-in-Err : goal.returns-in-Err
returns-in-Err g c =
    let t = node_view c.args.node.now in
    none_read g.B.Lacking.missing g.B.Backend.text g.B.Backend.too_deep c.args.limits.now c.args.pipelines.now (option_map (λ s. s.now) c.args.given) t c.args.unbuilt.now _
    (λ (r : Rule). IsRule t (rule_with (rest_of t) (rule_view r))) c.in-Err.fault c.in-Err.ensures.judged
