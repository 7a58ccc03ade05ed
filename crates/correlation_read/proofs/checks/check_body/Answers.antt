use Rattle.std.proofs.Common.{◌∙◌, sym}
use Rattle.yaml_tree.specs.View.{node_view}
use Rattle.correlation_read.proofs.Known.{kind_there, span_there}
use Rattle.correlation_read.proofs.checks.check_body.Goals as goal

pub returns-in_default : goal.returns-in_default
returns-in_default c =
    absurd (kind_there c.kind_at-kind.result (node_view c.args.node.now) c.in_ok-check_all.ensures.0 (sym c.kind_at-kind.ensures ∙ c.in_default.is))

pub returns-in_default-span_at : goal.returns-in_default-span_at
returns-in_default-span_at c =
    absurd (span_there c.kind_at-kind.result (node_view c.args.node.now) c.in_ok-check_all.ensures.0 (sym c.span_at.ensures ∙ c.in_default-span_at.is))
