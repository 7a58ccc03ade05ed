use Rattle.std.proofs.Common.{◌≡◌, map, take}
use Rattle.modifier_values.specs.Edited.{pattern_of}
use Rattle.modifier_values.specs.Encoded.{as_pattern}
use Rattle.modifier_values.proofs.text_patterns.edited_texts.Given as goal

abbrev pub invariant-loop-text : goal.invariant-loop-text
invariant-loop-text l = l.all.items ≡ map (λ text. pattern_of l.chain (as_pattern text)) (take l.text-index l.texts)
