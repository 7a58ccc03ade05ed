use Rattle.std.proofs.Common.{◌≡◌, ◌++◌, drop}
use Rattle.std.specs.List.{filter_map}
use Rattle.yaml_tree.specs.View.{entries_view}
use Rattle.correlation_read.specs.Correlations.{test_of}
use Rattle.correlation_read.proofs.document.copy_tests.Given as goal

abbrev pub invariant-loop-entry : goal.invariant-loop-entry
invariant-loop-entry l =
    l.tests ++ filter_map test_of (entries_view (drop l.entry-index l.entries)) ≡ filter_map test_of (entries_view l.entries)
