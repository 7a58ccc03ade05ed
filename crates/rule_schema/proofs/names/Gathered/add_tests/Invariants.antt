use Rattle.std.proofs.Common.{◌≡◌, drop}
use Rattle.std.specs.List.{flat_map}
use Rattle.rule_schema.specs.Gathered.{AreFound, texts_of, gathered, test_uses}
use Rattle.rule_schema.proofs.names.Gathered.add_tests.Given as goal

abbrev pub invariant-loop-test : goal.invariant-loop-test
invariant-loop-test l = record {
  kept : AreFound (texts_of l.self.names.items) l.self.index l.self.indexed;
  gathers : gathered l.self.names.items (flat_map (test_uses l.place) (drop l.test-index l.tests)) ≡ gathered l.initial.self.names.items (flat_map (test_uses l.place) l.tests);
}
