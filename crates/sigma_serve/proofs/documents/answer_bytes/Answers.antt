use Rattle.std.proofs.Common.{List, subst}
use Rattle.answer_writer.specs.Stands.{Writes}
use Rattle.sigma_serve.proofs.Documented.{Documents, file_answered, file_refused, file_memory}
use Rattle.sigma_serve.specs.UnderSchema.{is_ended}
use Rattle.yaml_documents.specs.Given.{answers_view}
use Rattle.yaml_tree.specs.declared.tree.Document.{Document}
use Rattle.sigma_serve.proofs.documents.answer_bytes.Goals as goal

pub returns-in-Ok : goal.returns-in-Ok
returns-in-Ok g c =
    let limits = c.args.limits.now in
    let name = c.args.name.now in
    let before = g.B.Builder.refused c.args.builder.now in
    let after = g.B.Builder.refused c.answer_documents.new.builder in
    let ended = is_ended c.answer_documents.result in
    let gives = g.T.TreeCommand.gives c.args.command.now limits in
    let ps = g.T.TreeCommand.pipelines c.args.command.now in
    let old = g.W.Outside.state c.args.outside.now in
    let new = g.W.Outside.state c.answer_documents.new.outside in
    file_answered gives limits ps name c.args.bytes.now c.verdicts.ensures.never_both c.one_verdict.ensures.list before after ended (answers_view c.in-Ok.documents.items) c.answer_documents.result old new c.in-Ok.ensures.taken
    (subst (λ (ds : List Document). Writes (Documents gives limits ps name before after ended (answers_view ds)) c.answer_documents.result old new) c.as_slice.ensures.value c.answer_documents.ensures)

pub returns-in-Err-Refused : goal.returns-in-Err-Refused
returns-in-Err-Refused g c =
    let limits = c.args.limits.now in
    let refused_so = rw c.in-Err-Refused.field-0-is at c.in-Err-Refused.ensures.refused in
    file_refused (g.T.TreeCommand.gives c.args.command.now limits) limits (g.T.TreeCommand.pipelines c.args.command.now) c.args.name.now c.args.bytes.now c.verdicts.ensures.never_both (g.B.Builder.refused c.args.builder.now) (is_ended c.put_refusal.result)
    c.in-Err-Refused.refusal c.put_refusal.result (g.W.Outside.state c.args.outside.now) (g.W.Outside.state c.put_refusal.new.outside) refused_so c.put_refusal.ensures

pub returns-in-Err-Memory : goal.returns-in-Err-Memory
returns-in-Err-Memory g c =
    let limits = c.args.limits.now in
    file_memory (g.T.TreeCommand.gives c.args.command.now limits) limits (g.T.TreeCommand.pipelines c.args.command.now) c.args.name.now c.args.bytes.now (c.each_file.ensures limits) (g.B.Builder.refused c.args.builder.now) (g.W.Outside.state c.args.outside.now)
