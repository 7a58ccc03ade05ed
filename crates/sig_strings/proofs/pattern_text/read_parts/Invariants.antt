use Rattle.std.proofs.Common.{List, ◌++◌, length}
use denote.Text.{Utf8}
use denote.Shadow.{shadow}
use Rattle.std.specs.Str.{chars}
use Rattle.sig_strings.specs.Spells.{Spells}
use Rattle.sig_strings.specs.declared.part.Part.{Part}
use Rattle.sig_strings.proofs.pattern_text.read_parts.Given as goal

-- whatever the rest spells, the whole spells what was read and then that
abbrev pub invariant-loop-c : goal.invariant-loop-c
invariant-loop-c l = record {
  text : shadow (Utf8 l.left);
  read : (later : List Part) → Spells l.expand (chars l.left) later → Spells l.expand (chars l.fn.text) (l.parts.items ++ later);
}

abbrev pub decreases-loop-c : goal.decreases-loop-c
decreases-loop-c l = length (chars l.left)
