use Rattle.correlation_files.proofs.Gathering.{documents_start, documents_next, documents_stop}
use Rattle.correlation_files.proofs.rule_files.read_each.Goals as goal

pub loop-document-init : goal.loop-document-init
loop-document-init g c = documents_start c.args.limits.now c.args.pipelines.now c.args.schema.now c.args.file.now _ c.args.found.now c.new-refusals.result c.new-refusals.ensures

pub loop-document-preserved : goal.loop-document-preserved
loop-document-preserved g c =
    let at = c.loop-document in
    documents_next c.args.limits.now c.args.pipelines.now c.args.schema.now c.args.file.now c.args.documents.now at.document-index c.document-item.result c.loop-document-test.true c.document-item.is
    (g.B.Builder.refused c.args.builder.now) (g.B.Builder.refused at.builder) (g.B.Builder.refused c.read_document-taken.new.builder) at.refusals c.args.found.now at.found at.invariant
    c.read_document-taken.result c.keep.new.self c.keep.new.refusals c.read_document-taken.ensures c.in-Ok.ensures.ended c.in-Ok.ensures.keeps c.in-Ok.ensures.refusals

pub returns-in-Err-clause-read : goal.returns-in-Err-clause-read
returns-in-Err-clause-read g c =
    let at = c.loop-document in
    documents_stop c.args.limits.now c.args.pipelines.now c.args.schema.now c.args.file.now c.args.documents.now at.document-index c.document-item.result c.loop-document-test.true c.document-item.is
    (g.B.Builder.refused c.args.builder.now) (g.B.Builder.refused at.builder) (g.B.Builder.refused c.read_document-taken.new.builder) at.refusals c.args.found.now at.found at.invariant
    _ _ c.read_document-taken.ensures
