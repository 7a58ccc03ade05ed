use Rattle.std.proofs.Common.{◌≡◌, sym, subst, ◌∷◌, []}
use Rattle.answer_writer.proofs.Wrote.{writes_as}
use Rattle.answer_writer.specs.Stands.{Writes}
use Rattle.sigma_serve.proofs.Documented.{Documents, document_answered, document_refused}
use Rattle.sigma_serve.specs.Reports.{refusal_share}
use Rattle.sigma_serve.specs.RuleFiles.{BySome}
use Rattle.sigma_serve.specs.UnderSchema.{is_ended}
use Rattle.yaml_documents.specs.Given.{IsPlain}
use Rattle.yaml_tree.specs.Tree.{tree, refusal}
use Rattle.yaml_tree.specs.View.{document_view, node_view}
use Rattle.yaml_tree.specs.declared.tree.Document.{Document}
use Rattle.sigma_serve.proofs.documents.answer_document.Goals as goal

pub returns-in-Tree : goal.returns-in-Tree
returns-in-Tree g c =
    let limits = c.args.limits.now in
    let name = c.args.name.now in
    let gives = g.T.TreeCommand.gives c.args.command.now limits in
    let ps = g.T.TreeCommand.pipelines c.args.command.now in
    let before = g.B.Builder.refused c.args.builder.now in
    let after = g.B.Builder.refused c.answer.new.builder in
    let ended = is_ended c.answer.result in
    let old = g.W.Outside.state c.args.outside.now in
    let new = g.W.Outside.state c.answer.new.outside in
    let t = node_view c.in-Tree.node in
    subst (λ (d : Document). Writes (Documents gives limits ps name before after ended (document_view d ∷ [])) c.answer.result old new) (sym c.in-Tree.is)
    (writes_as (BySome gives limits ps before after ended name t) (Documents gives limits ps name before after ended (tree t ∷ [])) c.answer.result old new
    (document_answered gives limits ps name before after ended t) c.answer.ensures)

pub returns-in-Refused : goal.returns-in-Refused
returns-in-Refused g c =
    let limits = c.args.limits.now in
    let name = c.args.name.now in
    let gives = g.T.TreeCommand.gives c.args.command.now limits in
    let ps = g.T.TreeCommand.pipelines c.args.command.now in
    let texts = g.B.Builder.refused c.args.builder.now in
    let ended = is_ended c.put_refusal.result in
    let old = g.W.Outside.state c.args.outside.now in
    let new = g.W.Outside.state c.put_refusal.new.outside in
    let r = c.in-Refused.refusal in
    subst (λ (d : Document). Writes (Documents gives limits ps name texts texts ended (document_view d ∷ [])) c.put_refusal.result old new) (sym c.in-Refused.is)
    (writes_as (λ share. share ≡ refusal_share name r) (Documents gives limits ps name texts texts ended (refusal (r.code, record { line = r.place.line; column = r.place.column }) ∷ [])) c.put_refusal.result old new
    (λ share is. document_refused gives limits ps name texts ended r share (subst (λ d. IsPlain d) c.in-Refused.is c.requires.plain) is) c.put_refusal.ensures)
