use Rattle.modifier_words.specs.declared.modifier.Joined.TheVariants.{All}
use Rattle.rule_lowering.specs.TreeOf.{item_tree}
use Rattle.rule_lowering.proofs.Ones.{level_one, item_closed}
use Rattle.rule_lowering.proofs.detection_trees.lower_alternative.Goals as goal

pub returns-in-len1-clause-ok : goal.returns-in-len1-clause-ok
returns-in-len1-clause-ok c =
    level_one c.lower_item.result All (item_tree c.args.fields.now) c.args.items.now c.item-item.result c.in-len1.len_at_least c.in-len1.len_below c.item-item.is
    (item_closed c.args.fields.now c.item-item.result) c.lower_item.ensures.ok
