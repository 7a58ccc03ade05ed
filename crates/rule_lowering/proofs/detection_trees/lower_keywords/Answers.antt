use Rattle.std.proofs.Common.{◌∙◌, ◌≡◌, ◌<◌, ap, subst, map, ℕ, List, length, get_or}
use Rattle.backend_core.specs.FieldAt.{kind_at}
use Rattle.backend_core.specs.View.{tree_view}
use Rattle.modifier_words.specs.declared.modifier.Joined.TheVariants.{Any}
use Rattle.rule_detections.specs.declared.test.Test.{Test}
use Rattle.rule_lowering.specs.Joining.{join}
use Rattle.rule_lowering.specs.TreeOf.{keyword_tree, value_tree}
use Rattle.rule_lowering.proofs.Levels.{level_goes}
use Rattle.rule_lowering.proofs.detection_trees.lower_keywords.Goals as goal

pub loop-value-preserved : goal.loop-value-preserved
loop-value-preserved c =
    let item = c.args.item.now in
    let at = c.loop-value.value-index in
    let same : c.as_slice-value-items.result.now ≡ item.tests = c.as_slice-value-items.ensures in
    level_goes item.joined (keyword_tree c.args.fields.now item.place)
    at item.tests c.value-item.result (map tree_view c.loop-value.parts.items) (map tree_view c.add_part.new.parts.items)
    (tree_view c.in_ok-part.part) _
    (subst (λ (vs : List (List Test)). at < length vs) same c.loop-value-test.true)
    (c.value-item.is ∙ ap (λ (vs : List (List Test)). get_or vs at c.value-item.result) same)
    c.loop-value.invariant
    (c.in_ok-part.ensures.ok
    ∙ (ap (λ (ns : List ℕ). join Any (map (λ field. value_tree c.args.fields.now item.place (kind_at c.args.fields.now field) field c.as_slice.result.now) ns)) (c.searched.ensures ∙ c.requires.searched)
    ∙ ap (keyword_tree c.args.fields.now item.place) c.as_slice.ensures))
    c.in_ok-add_part.ensures
