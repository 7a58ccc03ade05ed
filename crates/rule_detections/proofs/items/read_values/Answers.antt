use Rattle.std.proofs.Common.{◌∙◌, ◌+◌, sym, subst, take}
use Rattle.std.specs.Prelude.{List}
use Rattle.std.specs.List.{AllZip}
use Rattle.rule_detections.specs.PlainTests.{ArePlainTests}
use Rattle.rule_detections.specs.TestsOf.{TestsOf, value_refusal}
use Rattle.rule_detections.specs.declared.test.Test.{Test}
use Rattle.yaml_tree.specs.View.{node_view, nodes_view}
use Rattle.event_schema.specs.Lists.{EachOf}
use Rattle.sig_base.proofs.Firsts.{one_more, rest_first}
use Rattle.rule_detections.proofs.Zips.{each_more}
use Rattle.rule_detections.proofs.items.read_values.Goals as goal

pub loop-value-preserved : goal.loop-value-preserved
loop-value-preserved c =
    let at = c.loop-value in
    let nodes = c.args.values.now in
    record {
      cause = at.invariant.cause
          ∙ rest_first node_view (value_refusal c.args.unbuilt.now c.args.limits.now.value_chars c.args.limits.now.dashes c.args.chain.now) at.value-index nodes c.value-item.result
          c.loop-value-test.true c.value-item.is c.in_ok-tests.ensures.judged.0;
      read = subst (λ (all : List (List Test)). AllZip (TestsOf c.args.chain.now) (nodes_view (take (at.value-index + 1) nodes)) all) (sym c.in_ok-push.ensures.ok)
          (one_more node_view (TestsOf c.args.chain.now) at.value-index nodes c.value-item.result at.all c.in_ok-tests.tests
          c.loop-value-test.true c.value-item.is at.invariant.read c.in_ok-tests.ensures.judged.1);
      plain = subst (λ (all : List (List Test)). EachOf ArePlainTests all) (sym c.in_ok-push.ensures.ok)
          (each_more ArePlainTests at.all c.in_ok-tests.tests at.invariant.plain c.in_ok-tests.ensures.plain);
    }
