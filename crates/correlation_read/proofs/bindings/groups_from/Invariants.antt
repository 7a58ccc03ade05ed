use Rattle.std.proofs.Common.{◌≡◌, take, map}
use Rattle.correlation_read.specs.Sources as sources
use Rattle.correlation_read.proofs.bindings.groups_from.Given as goal

abbrev pub invariant-loop-rule : goal.invariant-loop-rule
invariant-loop-rule l = l.groups ≡ map (λ rule. sources.group_from l.all (sources.numbers_for l.fields l.aliases rule)) (take l.rule-index l.rules)
