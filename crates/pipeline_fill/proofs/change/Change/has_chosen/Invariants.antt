use Rattle.std.proofs.Common.{◌≡◌, drop}
use Rattle.std.specs.List.{list_any}
use Rattle.pipeline_fill.specs.Filled.{is_chosen}
use Rattle.pipeline_fill.proofs.change.Change.has_chosen.Given as goal

abbrev pub invariant-loop-part : goal.invariant-loop-part
invariant-loop-part l = list_any (is_chosen l.self.step.now.action) (drop l.part-index l.parts) ≡ list_any (is_chosen l.self.step.now.action) l.parts
