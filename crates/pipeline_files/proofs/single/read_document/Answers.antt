use Rattle.std.proofs.Common.{sym, subst}
use Rattle.std.specs.Prelude.{Result, Err}
use Rattle.pipeline_model.specs.declared.pipeline.Pipeline.{Pipeline}
use Rattle.rule_regex.specs.ForUnbuilt.{is_answered}
use Rattle.sig_base.specs.declared.refusal.Fault.{Fault}
use Rattle.yaml_tree.specs.View.{document_view}
use Rattle.yaml_tree.specs.declared.tree.Document.{Document}
use Rattle.pipeline_files.proofs.Gathering.{document_refused}
use Rattle.pipeline_files.specs.Gathered.{ForDocument, Gives}
use Rattle.pipeline_files.proofs.single.read_document.Goals as goal

pub returns-in-Tree : goal.returns-in-Tree
returns-in-Tree g c =
    let limits = c.args.limits.now in
    let before = g.B.Builder.refused c.args.builder.now in
    let after = g.B.Builder.refused c.read_tree.new.builder in
    subst (λ (d : Document). ForDocument limits (document_view d) before after (is_answered c.read_tree.result) (λ unbuilt. Gives unbuilt.values limits (document_view d) c.read_tree.result))
    (sym c.in-Tree.is) c.read_tree.ensures

pub returns-in-Refused : goal.returns-in-Refused
returns-in-Refused g c =
    let limits = c.args.limits.now in
    let texts = g.B.Builder.refused c.args.builder.now in
    let cause = c.in-Refused.cause in
    let given : Result Pipeline Fault = Err c.refused.result in
    subst (λ (d : Document). ForDocument limits (document_view d) texts texts (is_answered given) (λ unbuilt. Gives unbuilt.values limits (document_view d) given))
    (sym c.in-Refused.is) (document_refused limits cause.code cause.place texts c.refused.result c.refused.ensures)
