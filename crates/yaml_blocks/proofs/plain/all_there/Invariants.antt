use Rattle.std.proofs.Common.{◌≡◌, drop}
use Rattle.yaml_blocks.specs.Blocks.{nothing_in}
use Rattle.yaml_blocks.specs.Views.{lines_view}
use Rattle.yaml_blocks.proofs.plain.all_there.Given as goal

abbrev pub invariant-loop-line : goal.invariant-loop-line
invariant-loop-line l = nothing_in (lines_view (drop l.line-index l.lines)) ≡ nothing_in (lines_view l.lines)
