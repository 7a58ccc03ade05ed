use Rattle.std.proofs.Common.{◌≡◌, drop}
use Rattle.std.specs.List.{flat_map}
use Rattle.rule_schema.specs.Gathered.{AreFound, texts_of, gathered, value_uses}
use Rattle.rule_schema.proofs.names.Gathered.add_values.Given as goal

abbrev pub invariant-loop-tests : goal.invariant-loop-tests
invariant-loop-tests l = record {
  kept : AreFound (texts_of l.self.names.items) l.self.index l.self.indexed;
  gathers : gathered l.self.names.items (flat_map (value_uses l.place) (drop l.tests-index l.values)) ≡ gathered l.initial.self.names.items (flat_map (value_uses l.place) l.values);
}
