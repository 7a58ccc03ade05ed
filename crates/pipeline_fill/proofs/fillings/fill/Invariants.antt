use Rattle.std.proofs.Common.{◌≡◌, drop}
use Rattle.pipeline_fill.specs.Filled.{crossed, filled}
use Rattle.pipeline_fill.proofs.fillings.fill.Given as goal

abbrev pub invariant-loop-part : goal.invariant-loop-part
invariant-loop-part l = crossed l.fronts.items (filled l.change.vars.now l.change.step.now.action (drop l.part-index l.parts))
    ≡ filled l.change.vars.now l.change.step.now.action l.parts
