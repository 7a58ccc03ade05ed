use Rattle.std.proofs.Common.{◌≡◌, ◌++◌, length}
use denote.Text.{Utf8}
use denote.Shadow.{shadow}
use Rattle.std.specs.List.{position}
use Rattle.std.specs.Str.{chars}
use Rattle.pipeline_rename.specs.Names.{begins}
use Rattle.pipeline_rename.proofs.name_index.find_front.Given as goal

abbrev pub invariant-loop-c : goal.invariant-loop-c
invariant-loop-c l = record {
  text : shadow (Utf8 l.left);
  all : l.front ++ chars l.left ≡ l.fn.name;
  number : l.number ≡ position (λ from. begins from l.front) l.keys;
}

abbrev pub decreases-loop-c : goal.decreases-loop-c
decreases-loop-c l = length l.left
