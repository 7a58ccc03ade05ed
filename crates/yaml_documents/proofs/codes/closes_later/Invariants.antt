use Rattle.std.proofs.Common.{◌≡◌, drop}
use Rattle.yaml_blocks.specs.Documents.{closes_later}
use Rattle.yaml_blocks.specs.Views.{lines_view}
use Rattle.yaml_documents.proofs.codes.closes_later.Given as goal

abbrev pub invariant-loop-line : goal.invariant-loop-line
invariant-loop-line l = closes_later l.closing (lines_view (drop l.line-index l.later)) ≡ closes_later l.closing (lines_view l.later)
