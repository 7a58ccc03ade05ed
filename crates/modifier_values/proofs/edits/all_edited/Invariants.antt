use Rattle.std.proofs.Common.{◌≡◌, drop}
use Rattle.modifier_values.specs.Edited as edits
use Rattle.modifier_values.proofs.edits.all_edited.Given as goal

abbrev pub invariant-loop-modifier : goal.invariant-loop-modifier
invariant-loop-modifier l =
    edits.all_edited (drop l.modifier-index l.modifiers) l.edit ≡ edits.all_edited l.modifiers l.initial.edit
