use Rattle.std.proofs.Common.{◌≡◌, drop, map}
use Rattle.rule_schema.specs.Asked.{asks_view}
use Rattle.rule_schema.specs.Gathered.{AreFound, texts_of, gathered, use_of}
use Rattle.rule_schema.proofs.names.Gathered.add_names.Given as goal

abbrev pub invariant-loop-name : goal.invariant-loop-name
invariant-loop-name l = record {
  kept : AreFound (texts_of l.self.names.items) l.self.index l.self.indexed;
  gathers : gathered l.self.names.items (map (use_of l.place (asks_view l.asked)) (drop l.name-index l.names)) ≡ gathered l.initial.self.names.items (map (use_of l.place (asks_view l.asked)) l.names);
}
