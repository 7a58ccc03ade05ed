use Rattle.std.proofs.Common.{◌∙◌, sym, ap, map, List}
use Rattle.std.specs.Prelude.{not, filter, codes}
use Rattle.sig_conditions.specs.Named.{Named}
use Rattle.yaml_tree.specs.Tree.{Member}
use Rattle.yaml_tree.specs.View.{node_view}
use Rattle.rule_detections.specs.Detections.{is_key}
use Rattle.rule_model.proofs.ConditionLists.{IsJudged, listed_judged, judged_some, judged_whole}
use Rattle.rule_model.proofs.conditions.read_conditions.Goals as goal

pub returns : goal.returns
returns c =
    let limits = c.args.limits.now in
    let t = node_view c.args.node.now in
    let judged : IsJudged limits t c.read_listed.result = listed_judged limits t (node_view c.in-Some.value.now) c.in_ok-names.names.names c.read_listed.result
    c.in-Some.ensures
    (ap (λ (v : Named). v.names) c.in_ok-names.ensures.ok ∙ (c.in_ok-copy_names.ensures.ok ∙ ap (λ (es : List Member). map (λ e. e.key) (filter (λ e. not (is_key (codes "condition") e)) es)) (sym c.all_entries.ensures)))
    c.read_listed.ensures in
    record {
      judged = judged;
      some = judged_some limits t c.read_listed.result judged;
      whole = judged_whole limits t c.read_listed.result judged;
    }
