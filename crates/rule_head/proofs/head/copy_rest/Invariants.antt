use Rattle.std.proofs.Common.{◌≡◌, ◌++◌, drop}
use Rattle.std.specs.Prelude.{not, filter}
use Rattle.yaml_tree.specs.View.{entries_view}
use Rattle.rule_head.specs.Heads.{is_checked}
use Rattle.rule_head.proofs.head.copy_rest.Given as goal

abbrev pub invariant-loop-entry : goal.invariant-loop-entry
invariant-loop-entry l =
    entries_view l.rest.items ++ filter (λ e. not (is_checked e)) (entries_view (drop l.entry-index l.entries))
    ≡ filter (λ e. not (is_checked e)) (entries_view l.entries)
