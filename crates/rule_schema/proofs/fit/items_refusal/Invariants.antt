use Rattle.std.proofs.Common.{◌≡◌, drop, map}
use Rattle.sig_base.specs.Judged.{first}
use Rattle.rule_schema.specs.Inferred.{item_line}
use Rattle.rule_schema.proofs.fit.items_refusal.Given as goal

abbrev pub invariant-loop-item : goal.invariant-loop-item
invariant-loop-item l = first (map (item_line l.fields) (drop l.item-index l.items)) ≡ first (map (item_line l.fields) l.items)
