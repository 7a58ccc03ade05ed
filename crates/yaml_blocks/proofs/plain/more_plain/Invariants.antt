use Rattle.std.proofs.Common.{◌≡◌, ◌≤◌, drop}
use Rattle.yaml_blocks.specs.Blocks.{more_plain}
use Rattle.yaml_blocks.specs.Continuations.{behind_text}
use Rattle.yaml_blocks.specs.Views.{lines_view}
use Rattle.yaml_blocks.proofs.plain.more_plain.Given as goal

abbrev pub invariant-loop-at : goal.invariant-loop-at
invariant-loop-at l = record {
  counted : l.empty ≤ l.at;
  far : behind_text l.content (more_plain l.least l.empty (lines_view (drop l.at l.lines))) ≡ behind_text l.fn.first (more_plain l.fn.least 0 (lines_view l.fn.lines));
}
