use Rattle.yaml_inline.specs.View.{line_view, halt_view}
use Rattle.yaml_blocks.specs.Documents.{stop_code}
use Rattle.yaml_blocks.specs.Views.{lines_view}
use Rattle.yaml_documents.specs.Views.{code_view}
use Rattle.yaml_documents.proofs.Giving.{so_refused}
use Rattle.yaml_documents.proofs.document.refused_so.Goals as goal

pub returns-in-Some-clause-refused : goal.returns-in-Some-clause-refused
returns-in-Some-clause-refused c =
    so_refused (halt_view c.args.halt.now) (stop_code (line_view c.args.line.now) (lines_view c.args.later.now)) (code_view c.in-Some.found) c.refusal.result
    c.in-Some.ensures c.refusal.ensures
