use Rattle.std.proofs.Common.{◌≡◌, drop}
use Rattle.std.specs.List.{flat_map}
use Rattle.rule_schema.specs.Inferred.{item_uses}
use Rattle.rule_schema.specs.Gathered.{AreFound, texts_of, gathered}
use Rattle.rule_schema.proofs.names.Gathered.add_items.Given as goal

abbrev pub invariant-loop-item : goal.invariant-loop-item
invariant-loop-item l = record {
  kept : AreFound (texts_of l.self.names.items) l.self.index l.self.indexed;
  gathers : gathered l.self.names.items (flat_map item_uses (drop l.item-index l.items)) ≡ gathered l.initial.self.names.items (flat_map item_uses l.items);
}
