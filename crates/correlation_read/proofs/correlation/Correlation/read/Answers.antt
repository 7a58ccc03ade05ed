use Rattle.std.proofs.Common.{rules, sym, subst}
use Rattle.std.proofs.lemmas.Int.{to_z-of_z}
use Rattle.std.specs.Int.{w128}
use Rattle.std.specs.Int.RustNames.{FitsSigned}
use Rattle.yaml_tree.specs.View.{node_view}
use Rattle.correlation_read.specs.Correlations.{IsSpan}
use Rattle.correlation_read.proofs.Spans.{span_known}
use Rattle.correlation_read.proofs.correlation.Correlation.read.Goals as goal

pub returns-clause-span : goal.returns-clause-span
returns-clause-span c =
    let span = c.in_ok-body.body.span in
    let fits : FitsSigned w128 span = search rules in
    subst IsSpan (sym (to_z-of_z w128 span fits)) (span_known (node_view c.in-Some.value.now) span c.in_ok-body.ensures.1.span)
