use Rattle.std.proofs.Common.{◌≡◌, drop, map}
use Rattle.std.specs.List.{flat_map}
use Rattle.sig_base.specs.Judged.{first}
use Rattle.rule_schema.specs.Inferred.{item_line}
use Rattle.rule_schema.proofs.fit.alternatives_refusal.Given as goal

abbrev pub invariant-loop-alternative : goal.invariant-loop-alternative
invariant-loop-alternative l =
    first (map (item_line l.fields) (flat_map (λ items. items) (drop l.alternative-index l.alternatives))) ≡ first (map (item_line l.fields) (flat_map (λ items. items) l.alternatives))
