use Rattle.std.proofs.Common.{◌≡◌, drop, map}
use Rattle.std.specs.List.{flat_map}
use Rattle.sig_base.specs.Judged.{first}
use Rattle.rule_schema.specs.Inferred.{open_line}
use Rattle.rule_schema.proofs.filled.open_alternatives.Given as goal

abbrev pub invariant-loop-alternative : goal.invariant-loop-alternative
invariant-loop-alternative l =
    first (map open_line (flat_map (λ items. items) (drop l.alternative-index l.alternatives))) ≡ first (map open_line (flat_map (λ items. items) l.alternatives))
