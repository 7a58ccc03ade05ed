use Rattle.std.proofs.Common.{◌≡◌, ◌++◌, drop}
use Rattle.std.specs.List.{flat_map}
use Rattle.rule_model.specs.Expressions.{item_expressions}
use Rattle.rule_model.proofs.expressions.add_alternatives.Given as goal

abbrev pub invariant-loop-alternative : goal.invariant-loop-alternative
invariant-loop-alternative l =
    l.all ++ flat_map (flat_map item_expressions) (drop l.alternative-index l.alternatives)
    ≡ l.initial.all ++ flat_map (flat_map item_expressions) l.alternatives
