use Rattle.std.proofs.Common.{take, true}
use Rattle.yaml_documents.specs.Given.{answers_view}
use Rattle.pipeline_files.specs.Gathered.{AreGathered, ForDocuments}
use Rattle.pipeline_files.proofs.files.read_each.Given as goal

abbrev pub invariant-loop-document : goal.invariant-loop-document
invariant-loop-document g l =
    ForDocuments l.limits (answers_view (take l.document-index l.documents)) (g.B.Builder.refused l.fn.builder) (g.B.Builder.refused l.builder) true
    (λ placed. AreGathered l.limits placed l.pipelines l.refusals)
