use Rattle.std.specs.Prelude.{option_map}
use Rattle.yaml_tree.specs.View.{node_view}
use Rattle.rule_convert.proofs.Judging.{node_converted, none_converted}
use Rattle.rule_convert.proofs.conversion.convert_node.Goals as goal

pub returns-in-Ok : goal.returns-in-Ok
returns-in-Ok g c =
    node_converted c.args.limits.now (node_view c.args.node.now) c.in-Ok.unbuilt.items c.as_slice.result.now c.as_slice.ensures.value _ _ c.in-Ok.ensures.found _ _ _ _ c.convert_read.ensures

pub returns-in-Err : goal.returns-in-Err
returns-in-Err g c =
    none_converted g.B.Lacking.missing g.B.Backend.text g.B.Backend.too_deep c.args.limits.now c.args.pipelines.now (option_map (λ s. s.now) c.args.given) (node_view c.args.node.now) _ _ c.in-Err.fault c.in-Err.ensures.found
