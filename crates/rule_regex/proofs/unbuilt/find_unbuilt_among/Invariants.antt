use Rattle.std.proofs.Common.{take}
use Rattle.std.specs.Prelude.{Ok}
use Rattle.rule_regex.specs.Building.{FoundUnbuilt, AreBuiltOrFound}
use Rattle.rule_regex.proofs.unbuilt.find_unbuilt_among.Given as goal

abbrev pub invariant-loop-expression : goal.invariant-loop-expression
invariant-loop-expression g l = record {
  found : FoundUnbuilt (take l.expression-index l.expressions) (g.B.Builder.refused l.initial.builder) (g.B.Builder.refused l.builder) (Ok l.unbuilt.items);
  built : AreBuiltOrFound (g.B.Builder.has_built l.builder) l.unbuilt.items (take l.expression-index l.expressions);
}
