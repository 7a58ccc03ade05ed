use Rattle.sigma_serve.proofs.Documented.{documents_none, documents_next, documents_stop}
use Rattle.sigma_serve.proofs.documents.answer_documents.Goals as goal

pub loop-document-init : goal.loop-document-init
loop-document-init g c =
    let limits = c.args.limits.now in
    documents_none (g.T.TreeCommand.gives c.args.command.now limits) limits (g.T.TreeCommand.pipelines c.args.command.now) c.args.name.now (g.B.Builder.refused c.args.builder.now) (g.W.Outside.state c.args.outside.now)

pub loop-document-preserved : goal.loop-document-preserved
loop-document-preserved g c =
    let limits = c.args.limits.now in
    documents_next (g.T.TreeCommand.gives c.args.command.now limits) limits (g.T.TreeCommand.pipelines c.args.command.now) c.args.name.now (g.B.Builder.refused c.args.builder.now) (g.B.Builder.refused c.loop-document.builder)
    (g.B.Builder.refused c.answer_document.new.builder) c.args.documents.now c.loop-document.document-index c.document-item.result c.loop-document.found c.in-Ok.refused c.either-found.result
    (g.W.Outside.state c.args.outside.now) (g.W.Outside.state c.loop-document.outside) (g.W.Outside.state c.answer_document.new.outside)
    c.loop-document-test.true c.document-item.is c.either-found.ensures c.loop-document.invariant c.in-Ok.ensures

pub returns-in-Err : goal.returns-in-Err
returns-in-Err g c =
    let limits = c.args.limits.now in
    documents_stop (g.T.TreeCommand.gives c.args.command.now limits) limits (g.T.TreeCommand.pipelines c.args.command.now) c.args.name.now (c.each_tree.ensures limits) (g.B.Builder.refused c.args.builder.now)
    (g.B.Builder.refused c.loop-document.builder) (g.B.Builder.refused c.answer_document.new.builder) c.args.documents.now c.loop-document.document-index c.document-item.result c.loop-document.found c.in-Err.stop
    (g.W.Outside.state c.args.outside.now) (g.W.Outside.state c.loop-document.outside) (g.W.Outside.state c.answer_document.new.outside)
    c.loop-document-test.true c.document-item.is c.loop-document.invariant c.in-Err.ensures
