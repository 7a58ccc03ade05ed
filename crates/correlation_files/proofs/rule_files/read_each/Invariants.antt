use Rattle.std.proofs.Common.{take, true}
use Rattle.yaml_documents.specs.Given.{answers_view}
use Rattle.correlation_files.specs.Read.{AreRead, ForDocuments}
use Rattle.correlation_files.proofs.rule_files.read_each.Given as goal

abbrev pub invariant-loop-document : goal.invariant-loop-document
invariant-loop-document g l =
    ForDocuments l.limits l.pipelines (answers_view (take l.document-index l.documents)) (g.B.Builder.refused l.fn.builder) (g.B.Builder.refused l.builder) true
    (λ placed. AreRead l.limits l.pipelines l.schema l.file placed l.refusals l.fn.found l.found)
