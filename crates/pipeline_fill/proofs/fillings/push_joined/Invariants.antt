use Rattle.std.proofs.Common.{◌≡◌, ◌++◌, map, take}
use Rattle.pipeline_fill.proofs.fillings.push_joined.Given as goal

abbrev pub invariant-loop-rest : goal.invariant-loop-rest
invariant-loop-rest l = l.all.items ≡ l.initial.all.items ++ map (λ rest. l.front ++ rest) (take l.rest-index l.more)
