-- Which documents `check` accepts: rules and correlations.
use Rattle.std.specs.Prelude.{List, if◌then◌else◌}
use Rattle.std.specs.declared.option.Option.{Option}
use Rattle.correlation_read.specs.Checks.{correlation_refusal}
use Rattle.rule_model.specs.Rules.{rule_refusal}
use Rattle.sig_base.specs.declared.limits.Limits.{Limits}
use Rattle.sig_base.specs.declared.refusal.Place.{Place}
use Rattle.sig_base.specs.declared.refusal.Refusal.{Refusal}
use Rattle.yaml_tree.specs.Tree.{Tree}
use Rattle.correlation_files.specs.Outcomes.{is_correlation}

-- why a tree is neither: the first cause for which it's no correlation, where it has the key `correlation`, and else the first for which
-- it's no rule; its regular expressions aren't built at these places
abbrev pub check_refusal : List Place → Limits → Tree → Option Refusal
check_refusal unbuilt limits t = if is_correlation t then correlation_refusal t else rule_refusal unbuilt limits t
