use Rattle.pipeline_files.proofs.Gathering.{documents_next, documents_stop}
use Rattle.pipeline_files.proofs.files.read_each.Goals as goal

pub loop-document-preserved : goal.loop-document-preserved
loop-document-preserved g c =
    let at = c.loop-document in
    documents_next c.args.limits.now c.args.documents.now at.document-index c.document-item.result c.loop-document-test.true c.document-item.is
    (g.B.Builder.refused c.args.builder.now) (g.B.Builder.refused at.builder) (g.B.Builder.refused c.read_document-found.new.builder) at.pipelines at.refusals at.invariant
    c.read_document-found.result c.keep.new.pipelines c.keep.new.refusals c.read_document-found.ensures c.in-Ok.ensures.ended c.in-Ok.ensures.pipelines c.in-Ok.ensures.refusals

pub returns-in-Err : goal.returns-in-Err
returns-in-Err g c =
    let at = c.loop-document in
    documents_stop c.args.limits.now c.args.documents.now at.document-index c.document-item.result c.loop-document-test.true c.document-item.is
    (g.B.Builder.refused c.args.builder.now) (g.B.Builder.refused at.builder) (g.B.Builder.refused c.read_document-found.new.builder) at.pipelines at.refusals at.invariant
    _ _ c.read_document-found.ensures
