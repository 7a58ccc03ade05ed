use Rattle.rule_schema.specs.Asked.{asks_view}
use Rattle.rule_schema.specs.Gathered.{use_of}
use Rattle.rule_schema.proofs.Gathering.{name_stops, gathers_on}
use Rattle.rule_schema.proofs.names.Gathered.add_names.Goals as goal

pub returns-in_err-add-clause-gathers : goal.returns-in_err-add-clause-gathers
returns-in_err-add-clause-gathers c =
    gathers_on c.from_residual.result c.in_err-add.field-0.0 _ _ _ _ _ _ _ c.from_residual.ensures.1 (λ y p. p) c.in_err-add.ensures.gathers
    (λ r g. name_stops (use_of c.args.place (asks_view c.args.asked)) c.loop-name.name-index c.args.names.now c.name-item.result _ r _ c.loop-name-test.true c.name-item.is c.loop-name.invariant.gathers g)
