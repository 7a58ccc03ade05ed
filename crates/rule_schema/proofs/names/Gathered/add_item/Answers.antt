use Rattle.std.proofs.Common.{◌≡◌}
use Rattle.rule_schema.specs.Asked.{asks_view}
use Rattle.rule_schema.specs.Kinds.{asks_of}
use Rattle.rule_schema.proofs.Gathering.{item_stops, item_gathers, gathers_on}
use Rattle.rule_schema.proofs.names.Gathered.add_item.Goals as goal

pub returns-in_err-add_fields-clause-gathers : goal.returns-in_err-add_fields-clause-gathers
returns-in_err-add_fields-clause-gathers c =
    let own : asks_view c.asked_by-asked.result ≡ asks_of c.args.item.now.tests = rw c.as_slice.ensures at c.asked_by-asked.ensures in
    gathers_on c.from_residual.result c.in_err-add_fields.field-0.0 _ _ _ _ _ _ _ c.from_residual.ensures.1 (λ y p. p) c.in_err-add_fields.ensures.gathers
    (λ r g. item_stops c.args.item.now (asks_view c.asked_by-asked.result) c.args.self.now.names.items r own g)

pub returns-clause-gathers : goal.returns-clause-gathers
returns-clause-gathers c =
    let own : asks_view c.asked_by-asked.result ≡ asks_of c.args.item.now.tests = rw c.as_slice.ensures at c.asked_by-asked.ensures in
    item_gathers c.args.item.now (asks_view c.asked_by-asked.result) c.add_values.result c.args.self.now.names.items c.add_fields.new.self.names.items c.add_values.new.self.names.items
    own c.in_ok-add_fields.ensures.gathers (rw c.as_slice-2.ensures at c.add_values.ensures.gathers)
