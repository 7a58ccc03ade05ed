use Rattle.std.proofs.Common.{◌↔◌, ◌+◌, length}
use denote.Text.{Utf8}
use denote.Shadow.{shadow}
use Rattle.std.specs.Str.{chars}
use Rattle.matching.specs.Suffixes.{SuffixHolds}
use Rattle.matching.proofs.suffixes.matches_some_suffix.Given as goal

-- the runs before don't matter: what is sought now holds of a suffix exactly where the whole does
abbrev pub invariant-loop-rest : goal.invariant-loop-rest
invariant-loop-rest g l = record {
  text : shadow (Utf8 l.left);
  same : SuffixHolds (g.C.Cursor.holds l.fn.start) (chars l.fn.text) ↔ SuffixHolds (g.C.Cursor.holds l.later) (chars l.left);
}

abbrev pub decreases-loop-rest : goal.decreases-loop-rest
decreases-loop-rest g l = g.C.Cursor.left l.later + length l.left
