use Rattle.std.proofs.Common.{◌≡◌, drop}
use Rattle.std.specs.List.{flat_map}
use Rattle.rule_schema.specs.Gathered.{AreFound, texts_of, gathered, alternative_uses}
use Rattle.rule_schema.proofs.names.Gathered.add_alternatives.Given as goal

abbrev pub invariant-loop-alternative : goal.invariant-loop-alternative
invariant-loop-alternative l = record {
  kept : AreFound (texts_of l.self.names.items) l.self.index l.self.indexed;
  gathers : gathered l.self.names.items (flat_map alternative_uses (drop l.alternative-index l.alternatives)) ≡ gathered l.initial.self.names.items (flat_map alternative_uses l.alternatives);
}
