use Rattle.std.proofs.Common.{◌≡◌, length}
use denote.Text.{Utf8}
use denote.Shadow.{shadow}
use Rattle.std.specs.Str.{chars}
use Rattle.pipeline_rename.specs.Names.{begins}
use Rattle.pipeline_rename.proofs.name_index.begins.Given as goal

abbrev pub invariant-loop-c : goal.invariant-loop-c
invariant-loop-c l = record {
  passed : shadow (Utf8 l.passed);
  left : shadow (Utf8 l.left);
  same : begins (chars l.passed) (chars l.left) ≡ begins (chars l.front) (chars l.text);
}

abbrev pub decreases-loop-c : goal.decreases-loop-c
decreases-loop-c l = length l.passed
