use Rattle.std.proofs.Common.{◌≡◌, length, drop}
use denote.Text.{Utf8}
use denote.Shadow.{shadow}
use Rattle.std.specs.Str.{chars}
use Rattle.pipeline_rename.proofs.mapping.behind.Given as goal

abbrev pub invariant-loop-more : goal.invariant-loop-more
invariant-loop-more l = record {
  passed : shadow (Utf8 l.passed);
  left : shadow (Utf8 l.left);
  same : drop (length (chars l.passed)) (chars l.left) ≡ drop (length (chars l.front)) (chars l.text);
}

abbrev pub decreases-loop-more : goal.decreases-loop-more
decreases-loop-more l = length l.passed
