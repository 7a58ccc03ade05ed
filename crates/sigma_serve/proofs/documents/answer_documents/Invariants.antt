use Rattle.std.proofs.Common.{take, Ok, true}
use Rattle.answer_writer.specs.Stands.{Writes}
use Rattle.sigma_serve.proofs.Documented.{Documents}
use Rattle.yaml_documents.specs.Given.{answers_view}
use Rattle.sigma_serve.proofs.documents.answer_documents.Given as goal

abbrev pub invariant-loop-document : goal.invariant-loop-document
invariant-loop-document g l =
    Writes (Documents (g.T.TreeCommand.gives l.command l.limits) l.limits (g.T.TreeCommand.pipelines l.command) l.name (g.B.Builder.refused l.fn.builder) (g.B.Builder.refused l.builder) true (answers_view (take l.document-index l.documents))) (Ok l.found)
    (g.W.Outside.state l.fn.outside) (g.W.Outside.state l.outside)
