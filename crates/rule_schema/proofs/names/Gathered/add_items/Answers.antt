use Rattle.rule_schema.specs.Inferred.{item_uses}
use Rattle.rule_schema.proofs.Gathering.{turn, stop, gathers_on}
use Rattle.rule_schema.proofs.names.Gathered.add_items.Goals as goal

pub returns-in_err-add_item-clause-gathers : goal.returns-in_err-add_item-clause-gathers
returns-in_err-add_item-clause-gathers c =
    gathers_on c.from_residual.result c.in_err-add_item.field-0.0 _ _ _ _ _ _ _ c.from_residual.ensures.1 (λ y p. p) c.in_err-add_item.ensures.gathers
    (λ r g. stop item_uses c.loop-item.item-index c.args.items.now c.item-item.result _ r _ c.loop-item-test.true c.item-item.is c.loop-item.invariant.gathers g)

pub loop-item-preserved : goal.loop-item-preserved
loop-item-preserved c = record {
  kept = c.in_ok-add_item.ensures.kept;
  gathers = turn item_uses c.loop-item.item-index c.args.items.now c.item-item.result _ _ _ c.loop-item-test.true c.item-item.is c.loop-item.invariant.gathers c.in_ok-add_item.ensures.gathers;
}
