use Rattle.std.proofs.Common.{◌≡◌, map}
use Rattle.sig_strings.specs.declared.part.Part.TheVariants.{Char}
use Rattle.modifier_values.proofs.text_patterns.as_pattern.Given as goal

abbrev pub invariant-loop-c : goal.invariant-loop-c
invariant-loop-c l = l.parts.items ≡ map Char l.yielded
