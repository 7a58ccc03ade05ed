use Rattle.std.proofs.Common.{◌≡◌, ◌≤◌, length, take}
use Rattle.yaml_inline.specs.Line.{trimmed}
use Rattle.yaml_inline.proofs.plain.trimmed.Given as goal

abbrev pub invariant-loop-end : goal.invariant-loop-end
invariant-loop-end l = (l.end ≤ length l.all) × (trimmed (take l.end l.all) ≡ trimmed l.all)

abbrev pub decreases-loop-end : goal.decreases-loop-end
decreases-loop-end l = l.end
