use Rattle.std.proofs.Common.{◌∙◌, ◌+◌, sym, subst, take}
use Rattle.std.specs.Prelude.{List}
use Rattle.std.specs.List.{AllZip}
use Rattle.yaml_tree.specs.View.{node_view, nodes_view}
use Rattle.rule_detections.specs.Detections.{IsAlternative, alternative_refusal}
use Rattle.event_schema.specs.Lists.{EachOf}
use Rattle.rule_detections.specs.Whole.{IsWholeAlternative}
use Rattle.rule_detections.specs.declared.item.Item.{Item}
use Rattle.sig_base.proofs.Firsts.{one_more, rest_first}
use Rattle.rule_detections.proofs.Zips.{each_more}
use Rattle.rule_detections.proofs.detections.read_alternatives.Goals as goal

pub loop-node-preserved : goal.loop-node-preserved
loop-node-preserved c =
    let at = c.loop-node in
    let nodes = c.args.nodes.now in
    record {
      cause = at.invariant.cause
          ∙ rest_first node_view (alternative_refusal c.args.unbuilt.now c.args.limits.now) at.node-index nodes c.node-item.result
          c.loop-node-test.true c.node-item.is c.in_ok-alternative.ensures.judged.0;
      read = subst (λ (all : List (List Item)). AllZip IsAlternative (nodes_view (take (at.node-index + 1) nodes)) all) (sym c.in_ok-push.ensures.ok)
          (one_more node_view IsAlternative at.node-index nodes c.node-item.result at.all c.in_ok-alternative.alternative
          c.loop-node-test.true c.node-item.is at.invariant.read c.in_ok-alternative.ensures.judged.1);
      whole = subst (λ (all : List (List Item)). EachOf IsWholeAlternative all) (sym c.in_ok-push.ensures.ok)
          (each_more IsWholeAlternative at.all c.in_ok-alternative.alternative at.invariant.whole c.in_ok-alternative.ensures.whole);
    }
