use Rattle.std.proofs.Common.{◌≡◌, [], take, drop}
use Rattle.yaml_tree.specs.View.{nodes_view}
use Rattle.correlation_read.specs.Checks.{repeat_refusal}
use Rattle.correlation_read.proofs.checks.check_repeats.Given as goal

abbrev pub invariant-loop-at : goal.invariant-loop-at
invariant-loop-at l = repeat_refusal [] (nodes_view l.parts) ≡ repeat_refusal (nodes_view (take l.at l.parts)) (nodes_view (drop l.at l.parts))
