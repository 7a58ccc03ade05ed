use Rattle.rule_schema.specs.Gathered.{alternative_uses}
use Rattle.rule_schema.proofs.Gathering.{stop, gathers_on}
use Rattle.rule_schema.proofs.names.Gathered.add_alternatives.Goals as goal

pub returns-in_err-add_items-clause-gathers : goal.returns-in_err-add_items-clause-gathers
returns-in_err-add_items-clause-gathers c =
    gathers_on c.from_residual.result c.in_err-add_items.field-0.0 _ _ _ _ _ _ _ c.from_residual.ensures.1 (λ y p. p) (rw c.as_slice.ensures at c.in_err-add_items.ensures.gathers)
    (λ r g. stop alternative_uses c.loop-alternative.alternative-index c.args.alternatives.now c.alternative-item.result _ r _ c.loop-alternative-test.true c.alternative-item.is c.loop-alternative.invariant.gathers g)
