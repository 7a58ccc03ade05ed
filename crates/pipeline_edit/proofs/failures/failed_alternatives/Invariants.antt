use Rattle.std.proofs.Common.{◌≡◌, drop, map}
use Rattle.std.specs.List.{flat_map}
use Rattle.sig_base.specs.Judged.{first}
use Rattle.pipeline_edit.specs.Failed.{item_failure}
use Rattle.pipeline_edit.proofs.failures.failed_alternatives.Given as goal

abbrev pub invariant-loop-alternative : goal.invariant-loop-alternative
invariant-loop-alternative l =
    first (map (item_failure l.step) (flat_map (λ items. items) (drop l.alternative-index l.alternatives))) ≡ first (map (item_failure l.step) (flat_map (λ items. items) l.alternatives))
