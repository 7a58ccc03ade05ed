use Rattle.std.proofs.Common.{◌≡◌, drop, map}
use Rattle.sig_base.specs.Judged.{first}
use Rattle.pipeline_edit.specs.Failed.{item_failure}
use Rattle.pipeline_edit.proofs.failures.failed_items.Given as goal

abbrev pub invariant-loop-item : goal.invariant-loop-item
invariant-loop-item l = first (map (item_failure l.step) (drop l.item-index l.items)) ≡ first (map (item_failure l.step) l.items)
