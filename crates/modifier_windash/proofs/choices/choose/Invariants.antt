use Rattle.std.proofs.Common.{◌≡◌, take, drop}
use Rattle.modifier_windash.specs.Places.{chosen_parts, number_before}
use Rattle.modifier_windash.proofs.choices.choose.Given as goal

abbrev pub invariant-loop-at : goal.invariant-loop-at
invariant-loop-at l = (take l.at l.parts.items ≡ take l.at l.fn.parts.items) × (drop l.at l.parts.items ≡ chosen_parts (drop l.at l.fn.parts.items) l.fn.number)
    × (l.left ≡ number_before (drop l.at l.fn.parts.items) l.fn.number)
