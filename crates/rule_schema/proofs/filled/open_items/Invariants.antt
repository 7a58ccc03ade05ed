use Rattle.std.proofs.Common.{◌≡◌, drop, map}
use Rattle.sig_base.specs.Judged.{first}
use Rattle.rule_schema.specs.Inferred.{open_line}
use Rattle.rule_schema.proofs.filled.open_items.Given as goal

abbrev pub invariant-loop-item : goal.invariant-loop-item
invariant-loop-item l = first (map open_line (drop l.item-index l.items)) ≡ first (map open_line l.items)
