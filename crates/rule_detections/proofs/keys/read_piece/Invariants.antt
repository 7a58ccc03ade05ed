use Rattle.std.proofs.Common.{◌≡◌, ◌++◌, ◌≤◌, length}
use denote.Text.{Utf8}
use denote.Shadow.{shadow}
use Rattle.std.specs.Str.{chars}
use Rattle.rule_detections.specs.Keys.{name_in, words_in}
use Rattle.rule_detections.proofs.keys.read_piece.Given as goal

abbrev pub invariant-loop-c : goal.invariant-loop-c
invariant-loop-c l = record {
  text : shadow (Utf8 l.left);
  piece : l.piece ++ name_in (chars l.left) ≡ name_in (chars l.fn.text);
  behind : words_in (chars l.left) ≡ words_in (chars l.fn.text);
  shorter : length l.left ≤ length l.fn.text;
}

abbrev pub decreases-loop-c : goal.decreases-loop-c
decreases-loop-c l = length l.left
