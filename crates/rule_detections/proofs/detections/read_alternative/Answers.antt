use Rattle.std.proofs.Common.{◌∙◌, sym}
use Rattle.yaml_tree.specs.View.{node_view, entries_view}
use Rattle.rule_detections.proofs.ByKind.{map_judged, scalar_judged}
use Rattle.rule_detections.proofs.detections.read_alternative.Goals as goal

pub returns-in-Some-clause-judged : goal.returns-in-Some-clause-judged
returns-in-Some-clause-judged c =
    map_judged c.args.unbuilt.now c.args.limits.now (node_view c.args.node.now) (entries_view c.in-Some.entries.now) c.place_of.result c.read_map.result
    c.in-Some.ensures.is_map c.in-Some.ensures.some c.place_of.ensures c.read_map.ensures.judged

pub returns-clause-judged : goal.returns-clause-judged
returns-clause-judged c =
    scalar_judged c.args.unbuilt.now c.args.limits.now (node_view c.args.node.now) c.read_keyword.result (sym c.is_scalar.ensures ∙ c.if-not-is_scalar.false) c.read_keyword.ensures.judged
