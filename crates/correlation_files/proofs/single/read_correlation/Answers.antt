use Rattle.rule_head.specs.Heads.{rest_of}
use Rattle.yaml_tree.specs.View.{node_view}
use Rattle.correlation_read.specs.Correlations.{correlation_view, correlation_with}
use Rattle.correlation_files.proofs.single.read_correlation.Goals as goal

pub returns-in-Ok : goal.returns-in-Ok
returns-in-Ok c =
    let read = c.in-Ok.ensures.judged in
    let x = c.in-Ok.correlation in
    let t = node_view c.args.node.now in
    let within = c.bounds_are_within.ensures.read t (correlation_with (rest_of t) (correlation_view x)) read in
    (read.0, (read.1, record { few = within.0; span = within.1 }))
