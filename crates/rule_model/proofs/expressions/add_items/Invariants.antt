use Rattle.std.proofs.Common.{◌≡◌, ◌++◌, drop}
use Rattle.std.specs.List.{flat_map}
use Rattle.rule_model.specs.Expressions.{item_expressions}
use Rattle.rule_model.proofs.expressions.add_items.Given as goal

abbrev pub invariant-loop-item : goal.invariant-loop-item
invariant-loop-item l =
    l.all ++ flat_map item_expressions (drop l.item-index l.items)
    ≡ l.initial.all ++ flat_map item_expressions l.items
