use Rattle.std.proofs.Common.{◌≡◌, ◌++◌, take}
use Rattle.pipeline_fill.proofs.fillings.push_parts.Given as goal

abbrev pub invariant-loop-part : goal.invariant-loop-part
invariant-loop-part l = l.front ≡ l.initial.front ++ take l.part-index l.more
