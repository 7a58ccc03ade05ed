use Rattle.std.proofs.Common.{◌≡◌, length}
use denote.Text.{Utf8}
use denote.Shadow.{shadow}
use Rattle.std.specs.Str.{chars}
use Rattle.sql_lang.specs.Faults.{is_bad_bracket}
use Rattle.sql_lang.specs.Meaning.{Outside}
use Rattle.sql_check.specs.Turns.{bracket_view}
use Rattle.sql_check.proofs.glob.is_bad_glob.Given as goal

abbrev pub invariant-loop-c : goal.invariant-loop-c
invariant-loop-c l = record {
  left : shadow (Utf8 l.left);
  bad : is_bad_bracket (bracket_view l.bracket) (chars l.left) ≡ is_bad_bracket Outside l.pattern;
}

abbrev pub decreases-loop-c : goal.decreases-loop-c
decreases-loop-c l = length l.left
