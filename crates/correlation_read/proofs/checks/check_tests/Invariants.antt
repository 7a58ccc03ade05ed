use Rattle.std.proofs.Common.{◌≡◌, drop, map}
use Rattle.sig_base.specs.Judged.{first}
use Rattle.yaml_tree.specs.View.{entries_view}
use Rattle.correlation_read.specs.Checks.{test_refusal}
use Rattle.correlation_read.proofs.checks.check_tests.Given as goal

abbrev pub invariant-loop-entry : goal.invariant-loop-entry
invariant-loop-entry l = first (map (test_refusal l.kind) (entries_view l.entries)) ≡ first (map (test_refusal l.kind) (entries_view (drop l.entry-index l.entries)))
