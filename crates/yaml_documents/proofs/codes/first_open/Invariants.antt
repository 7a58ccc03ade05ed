use Rattle.std.proofs.Common.{◌≡◌, drop}
use Rattle.yaml_inline.specs.View.{line_view, openings_view}
use Rattle.yaml_blocks.specs.Documents.{first_open}
use Rattle.yaml_blocks.specs.Views.{lines_view}
use Rattle.yaml_documents.proofs.codes.first_open.Given as goal

abbrev pub invariant-loop-opening : goal.invariant-loop-opening
invariant-loop-opening l = first_open (line_view l.line) (openings_view (drop l.opening-index l.openings)) (lines_view l.later) ≡ first_open (line_view l.line) (openings_view l.openings) (lines_view l.later)
