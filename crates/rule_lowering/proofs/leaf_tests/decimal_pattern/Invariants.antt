use Rattle.std.proofs.Common.{◌≡◌, ◌++◌, length, map}
use denote.Text.{Utf8}
use denote.Shadow.{shadow}
use Rattle.std.specs.Fmt.{signed_decimal}
use Rattle.std.specs.Str.{chars}
use Rattle.sig_strings.specs.declared.part.Part.TheVariants.{Char}
use Rattle.rule_lowering.proofs.leaf_tests.decimal_pattern.Given as goal

abbrev pub invariant-loop-c : goal.invariant-loop-c
invariant-loop-c l = record {
  text : shadow (Utf8 l.left);
  all : l.parts.items ++ map Char (chars l.left) ≡ map Char (signed_decimal l.fn.number);
}

abbrev pub decreases-loop-c : goal.decreases-loop-c
decreases-loop-c l = length l.left
