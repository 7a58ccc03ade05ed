use Rattle.std.proofs.Common.{◌≡◌, drop}
use Rattle.std.specs.List.{list_all}
use Rattle.yaml_blocks.specs.Documents.{is_regular}
use Rattle.yaml_blocks.specs.Views.{lines_view}
use Rattle.yaml_documents.proofs.codes.are_regular.Given as goal

abbrev pub invariant-loop-line : goal.invariant-loop-line
invariant-loop-line l = list_all is_regular (lines_view (drop l.line-index l.lines)) ≡ list_all is_regular (lines_view l.lines)
