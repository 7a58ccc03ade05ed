use Rattle.std.proofs.Common.{◌≡◌, false, length}
use denote.Text.{Utf8}
use denote.Shadow.{shadow}
use Rattle.std.specs.Str.{chars}
use Rattle.sql_lang.specs.Faults.{is_bad_escape}
use Rattle.sql_check.proofs.like.is_bad_like.Given as goal

abbrev pub invariant-loop-c : goal.invariant-loop-c
invariant-loop-c l = record {
  left : shadow (Utf8 l.left);
  bad : is_bad_escape l.escape l.escaped (chars l.left) ≡ is_bad_escape l.escape false l.pattern;
}

abbrev pub decreases-loop-c : goal.decreases-loop-c
decreases-loop-c l = length l.left
