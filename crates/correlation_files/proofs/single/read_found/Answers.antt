use Rattle.std.proofs.Common.{refl, sym, ◌∙◌}
use Rattle.yaml_tree.specs.View.{node_view}
use Rattle.correlation_files.proofs.Documents.{by_rule, by_correlation}
use Rattle.correlation_files.proofs.single.read_found.Goals as goal

pub returns-then-has_key : goal.returns-then-has_key
returns-then-has_key g c =
    by_correlation c.args.limits.now c.args.pipelines.now c.args.schema.now (node_view c.args.node.now) c.args.unbuilt.now _ _ c.read_correlation.result
    (sym c.has_key.ensures ∙ c.if-has_key.true) refl c.read_correlation.ensures

pub returns : goal.returns
returns g c =
    by_rule c.args.limits.now c.args.pipelines.now c.args.schema.now (node_view c.args.node.now) c.args.unbuilt.now _ _ c.read_rule.result (sym c.has_key.ensures ∙ c.if-has_key.false) c.read_rule.ensures
