use Rattle.std.proofs.Common.{◌≡◌, drop}
use Rattle.yaml_blocks.specs.Blocks.{skip_comments}
use Rattle.yaml_blocks.specs.Views.{lines_view}
use Rattle.yaml_documents.specs.Views.{first_place}
use Rattle.yaml_documents.proofs.documents.first_content.Given as goal

abbrev pub invariant-loop-line : goal.invariant-loop-line
invariant-loop-line l = first_place (skip_comments (lines_view (drop l.line-index l.lines))) ≡ first_place (skip_comments (lines_view l.lines))
