use Rattle.std.proofs.Common.{sym, subst}
use Rattle.std.specs.Prelude.{Result, Err}
use Rattle.rule_regex.specs.ForUnbuilt.{is_answered}
use Rattle.sig_base.specs.declared.refusal.Fault.{Fault}
use Rattle.yaml_tree.specs.View.{node_view, document_view}
use Rattle.yaml_tree.specs.declared.tree.Document.{Document}
use Rattle.correlation_files.proofs.Documents.{tree_document, document_refused}
use Rattle.correlation_files.specs.Accepted.{Gives}
use Rattle.correlation_files.specs.Outcomes.{IsOutcome}
use Rattle.correlation_files.specs.Read.{ForDocument}
use Rattle.correlation_files.specs.declared.accepted.Accepted.{Accepted}
use Rattle.correlation_files.proofs.single.read_document.Goals as goal

pub returns-in-Tree : goal.returns-in-Tree
returns-in-Tree g c =
    let limits = c.args.limits.now in
    let ps = c.args.pipelines.now in
    let schema = c.args.schema.now in
    let before = g.B.Builder.refused c.args.builder.now in
    let after = g.B.Builder.refused c.read_tree.new.builder in
    subst (λ (d : Document). ForDocument limits ps (document_view d) before after (is_answered c.read_tree.result)
    (λ places. Gives (IsOutcome limits ps schema (places, document_view d)) schema c.read_tree.result))
    (sym c.in-Tree.is) (tree_document limits ps schema (node_view c.in-Tree.node) before after c.read_tree.result c.read_tree.ensures)

pub returns-in-Refused : goal.returns-in-Refused
returns-in-Refused g c =
    let limits = c.args.limits.now in
    let ps = c.args.pipelines.now in
    let schema = c.args.schema.now in
    let texts = g.B.Builder.refused c.args.builder.now in
    let cause = c.in-Refused.cause in
    let given : Result Accepted Fault = Err c.refused.result in
    subst (λ (d : Document). ForDocument limits ps (document_view d) texts texts (is_answered given)
    (λ places. Gives (IsOutcome limits ps schema (places, document_view d)) schema given))
    (sym c.in-Refused.is) (document_refused limits ps schema cause.code cause.place texts c.refused.result c.refused.ensures)
