use Rattle.std.proofs.Common.{◌≡◌, drop, map}
use Rattle.sig_base.specs.Judged.{first}
use Rattle.yaml_tree.specs.View.{entries_view}
use Rattle.correlation_read.specs.Checks.{alias_refusal}
use Rattle.correlation_read.proofs.checks.check_all_aliases.Given as goal

abbrev pub invariant-loop-entry : goal.invariant-loop-entry
invariant-loop-entry l = first (map alias_refusal (entries_view l.entries)) ≡ first (map alias_refusal (entries_view (drop l.entry-index l.entries)))
