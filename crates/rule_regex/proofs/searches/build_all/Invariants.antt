use Rattle.std.proofs.Common.{◌≡◌, take}
use Rattle.rule_regex.specs.Building.{ArePatterns, AreBuilt}
use Rattle.rule_regex.proofs.searches.build_all.Given as goal

abbrev pub invariant-loop-expression : goal.invariant-loop-expression
invariant-loop-expression g l = record {
  refused : g.B.Builder.refused l.builder ≡ g.B.Builder.refused l.initial.builder;
  patterns : ArePatterns (take l.expression-index l.expressions);
  built : AreBuilt (g.B.Builder.has_built l.builder) (take l.expression-index l.expressions);
}
