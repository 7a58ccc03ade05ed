use Rattle.std.proofs.Common.{◌≡◌, ◌∙◌, ◌+◌, true, sym, subst, take}
use Rattle.std.specs.Prelude.{List, filter}
use Rattle.std.specs.List.{AllZip}
use Rattle.yaml_tree.specs.View.{entry_view, entries_view}
use Rattle.rule_detections.specs.Detections.{IsDetection, detection_refusal, is_no_condition}
use Rattle.event_schema.specs.Lists.{EachOf}
use Rattle.rule_detections.specs.Whole.{IsWholeDetection}
use Rattle.rule_detections.specs.declared.detection.Detection.{Detection}
use Rattle.rule_detections.proofs.Zips.{each_more, kept_first, kept_more}
use Rattle.rule_detections.proofs.detections.read_entries.Goals as goal

pub loop-entry-preserved : goal.loop-entry-preserved
loop-entry-preserved c =
    let at = c.loop-entry in
    let entries = c.args.entries.now in
    let passes : is_no_condition (entry_view c.entry-item.result) ≡ true = sym c.is_no_condition.ensures ∙ c.if-not-is_no_condition.false in
    record {
      cause = at.invariant.cause
          ∙ kept_first entry_view is_no_condition (detection_refusal c.args.unbuilt.now c.args.limits.now) at.entry-index entries c.entry-item.result
          c.loop-entry-test.true c.entry-item.is passes c.in_ok-detection.ensures.judged.0;
      read = subst (λ (all : List Detection). AllZip IsDetection (filter is_no_condition (entries_view (take (at.entry-index + 1) entries))) all) (sym c.in_ok-push.ensures.ok)
          (kept_more entry_view is_no_condition IsDetection at.entry-index entries c.entry-item.result at.all c.in_ok-detection.detection
          c.loop-entry-test.true c.entry-item.is passes at.invariant.read c.in_ok-detection.ensures.judged.1);
      whole = subst (λ (all : List Detection). EachOf IsWholeDetection all) (sym c.in_ok-push.ensures.ok)
          (each_more IsWholeDetection at.all c.in_ok-detection.detection at.invariant.whole c.in_ok-detection.ensures.whole);
    }
