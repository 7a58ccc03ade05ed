use Rattle.std.proofs.Common.{◌∙◌, ◌+◌, sym, subst, take}
use Rattle.std.specs.Prelude.{List}
use Rattle.std.specs.List.{AllZip}
use Rattle.yaml_tree.specs.View.{entry_view, entries_view}
use Rattle.rule_detections.specs.Items.{IsItem, item_refusal}
use Rattle.rule_detections.specs.declared.item.Item.{Item}
use Rattle.sig_base.proofs.Firsts.{one_more, rest_first}
use Rattle.pipeline_model.proofs.items.read_items.Goals as goal

pub loop-entry-preserved : goal.loop-entry-preserved
loop-entry-preserved c =
    let at = c.loop-entry in
    let entries = c.args.entries.now in
    record {
      cause = at.invariant.cause
          ∙ rest_first entry_view (item_refusal c.args.unbuilt.now c.args.limits.now) at.entry-index entries c.entry-item.result
          c.loop-entry-test.true c.entry-item.is c.in_ok-item.ensures.judged.0;
      read = subst (λ (all : List Item). AllZip IsItem (entries_view (take (at.entry-index + 1) entries)) all) (sym c.in_ok-push.ensures.ok)
          (one_more entry_view IsItem at.entry-index entries c.entry-item.result at.items c.in_ok-item.item
          c.loop-entry-test.true c.entry-item.is at.invariant.read c.in_ok-item.ensures.judged.1);
    }
