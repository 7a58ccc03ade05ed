use Rattle.std.proofs.Common.{◌≡◌, drop}
use Rattle.backend_core.specs.Lacks.{lacks_refusal}
use Rattle.backend_core.specs.View.{plains_of}
use Rattle.backend_core.proofs.lack.+lacks.Given as goal

abbrev pub invariant-judge_parts-loop-part : goal.invariant-judge_parts-loop-part
invariant-judge_parts-loop-part g l =
    lacks_refusal (g.B.Lacking.missing l.schema) (plains_of (drop l.part-index l.parts))
    ≡ lacks_refusal (g.B.Lacking.missing l.schema) (plains_of l.parts)
