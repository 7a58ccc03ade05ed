use Rattle.std.proofs.Common.{List, ℕ, map}
use Rattle.backend_core.specs.View.{tree_view}
use Rattle.modifier_words.specs.declared.modifier.Joined.TheVariants.{Any}
use Rattle.rule_lowering.specs.TreeOf.{number_tree}
use Rattle.schema_index.specs.Numbers.{number_of}
use Rattle.rule_lowering.proofs.Ones.{level_one, number_closed}
use Rattle.rule_lowering.proofs.Levels.{level_goes}
use Rattle.rule_lowering.proofs.detection_trees.lower_names.Goals as goal

pub returns-in-len1-clause-ok : goal.returns-in-len1-clause-ok
returns-in-len1-clause-ok c =
    let item = c.args.item.now in
    let number = number_of c.args.fields.now in
    level_one c.lower_name.result Any (λ (name : List ℕ). number_tree c.args.fields.now item.place item.joined item.tests (number name)) c.args.names.now c.name-item.result
    c.in-len1.len_at_least c.in-len1.len_below c.name-item.is (number_closed c.args.fields.now item.place item.joined item.tests (number c.name-item.result)) c.lower_name.ensures.ok

pub loop-name-preserved : goal.loop-name-preserved
loop-name-preserved c =
    let item = c.args.item.now in
    level_goes Any (λ (name : List ℕ). number_tree c.args.fields.now item.place item.joined item.tests (number_of c.args.fields.now name))
    c.loop-name.name-index c.args.names.now c.name-item-in-loop-name.result (map tree_view c.loop-name.parts.items) (map tree_view c.add_part.new.parts.items)
    (tree_view c.in_ok-part.part) _ c.loop-name-test.true c.name-item-in-loop-name.is c.loop-name.invariant c.in_ok-part.ensures.ok c.in_ok-add_part.ensures
