use Rattle.std.proofs.Common.{◌≡◌, map, take}
use Rattle.rule_regex.specs.Building.{ArePatterns}
use Rattle.rule_regex.proofs.searches.build_searches.Given as goal

abbrev pub invariant-loop-expression : goal.invariant-loop-expression
invariant-loop-expression g l = record {
  built : g.B.Builder.refused l.builder ≡ g.B.Builder.refused l.initial.builder;
  patterns : ArePatterns (take l.expression-index l.expressions);
  texts : map (λ search. search.text) l.searches.items ≡ map (λ e. e.text) (take l.expression-index l.expressions);
}
