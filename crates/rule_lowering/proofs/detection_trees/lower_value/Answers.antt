use Rattle.backend_core.specs.FieldAt.{kind_at}
use Rattle.modifier_words.specs.declared.modifier.Joined.TheVariants.{Any}
use Rattle.rule_lowering.specs.TreeOf.{test_tree}
use Rattle.rule_lowering.proofs.Ones.{level_one, test_closed}
use Rattle.rule_lowering.proofs.detection_trees.lower_value.Goals as goal

pub returns-in-len1-clause-ok : goal.returns-in-len1-clause-ok
returns-in-len1-clause-ok c =
    level_one c.lower_test.result Any (test_tree c.args.fields.now c.args.place (kind_at c.args.fields.now c.args.field) c.args.field) c.args.tests.now c.test-item.result c.in-len1.len_at_least c.in-len1.len_below c.test-item.is
    (test_closed c.args.fields.now c.args.place (kind_at c.args.fields.now c.args.field) c.args.field c.test-item.result) c.lower_test.ensures.ok
