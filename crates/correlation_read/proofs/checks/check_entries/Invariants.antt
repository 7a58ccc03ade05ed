use Rattle.std.proofs.Common.{◌≡◌, drop, map}
use Rattle.sig_base.specs.Judged.{first}
use Rattle.yaml_tree.specs.View.{entries_view}
use Rattle.correlation_read.specs.Checks.{entry_refusal}
use Rattle.correlation_read.proofs.checks.check_entries.Given as goal

abbrev pub invariant-loop-entry : goal.invariant-loop-entry
invariant-loop-entry l = first (map (entry_refusal l.kind) (entries_view l.entries)) ≡ first (map (entry_refusal l.kind) (entries_view (drop l.entry-index l.entries)))
