use Rattle.std.proofs.Common.{sym, ◌∙◌}
use Rattle.std.proofs.lemmas.Result.{IfOk-weaker}
use Rattle.yaml_tree.specs.View.{node_view, place_view}
use Rattle.yaml_documents.proofs.Giving.{marked, unread, halted}
use Rattle.yaml_documents.proofs.document.refused_behind.Goals as goal

pub returns-then-is_marker-clause-refused : goal.returns-then-is_marker-clause-refused
returns-then-is_marker-clause-refused c =
    marked c.args.depth c.args.count c.args.lines.now c.index-lines-count.result (place_view c.start_of.result) c.refusal.result c.index-lines-count.is (sym c.is_marker.ensures ∙ c.if-is_marker.true)
    c.start_of.ensures c.refusal.ensures

pub returns-in-Ok-clause-refused : goal.returns-in-Ok-clause-refused
returns-in-Ok-clause-refused c =
    unread c.args.depth c.args.count c.args.lines.now _ c.index-lines-count.result (node_view c.in-Ok.field-0) (place_view c.start_of-in-Ok.result) c.refusal-in-Ok.result c.index-lines-count.is
    (sym c.is_marker.ensures ∙ c.if-is_marker.false) c.split_at.ensures.front c.in-Ok.ensures c.start_of-in-Ok.ensures c.refusal-in-Ok.ensures

pub returns-clause-refused : goal.returns-clause-refused
returns-clause-refused c =
    IfOk-weaker c.refused_so.result _ _
    (λ d h. halted c.in-Err.halt c.args.depth c.args.count c.args.lines.now _ _ c.index-lines-count.result d c.index-lines-count.is (sym c.is_marker.ensures ∙ c.if-is_marker.false)
    c.split_at.ensures.front c.split_at.ensures.back c.in-Err.ensures h)
    c.refused_so.ensures.refused
