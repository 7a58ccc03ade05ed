use Rattle.std.proofs.Common.{◌≡◌, drop}
use Rattle.modifier_values.specs.Encoded as encoded
use Rattle.modifier_values.proofs.encodings.units_of.Given as goal

abbrev pub invariant-loop-modifier : goal.invariant-loop-modifier
invariant-loop-modifier l = encoded.units_of (drop l.modifier-index l.modifiers) ≡ encoded.units_of l.modifiers
