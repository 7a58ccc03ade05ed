use Rattle.std.proofs.Common.{◌≡◌, ◌++◌, length}
use denote.Text.{Utf8}
use denote.Shadow.{shadow}
use Rattle.std.specs.List.{take_while}
use Rattle.std.specs.Str.{chars}
use Rattle.sig_strings.specs.Spells.{is_word_char}
use Rattle.sig_strings.specs.Signs.{hole_name}
use Rattle.sig_strings.proofs.hole.hole_name.Given as goal

abbrev pub invariant-loop-c : goal.invariant-loop-c
invariant-loop-c l = record {
  text : shadow (Utf8 l.left);
  so_far : l.name ++ take_while is_word_char (chars l.left) ≡ hole_name (chars l.fn.text);
}

abbrev pub decreases-loop-c : goal.decreases-loop-c
decreases-loop-c l = length l.left
