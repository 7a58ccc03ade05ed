use Rattle.std.proofs.Common.{◌≡◌, ◌↔◌, ◌∙◌, ◌-◌, ◌^◌, List, length, min, refl}
use Rattle.backend_core.specs.Holds.{TreeHolds}
use Rattle.backend_core.specs.Sound.{IsSound}
use Rattle.backend_core.specs.View.{tree_view}
use Rattle.event_schema.specs.Events.{IsEvent}
use Rattle.event_schema.specs.declared.value.Value.{Value}
use Rattle.rule_model.specs.Matching.{Matches}
use Rattle.rule_model.specs.Plain.{rule_view}
use Rattle.rule_lowering.specs.Leaves.{leaves}
use Rattle.rule_lowering.specs.Refused.{told}
use Rattle.rule_lowering.specs.TreeOf.{tree_of}
use Rattle.rule_lowering.proofs.RuleLemmas.{refuses, passes, count_is, tree_is, judged, kept, refused_so}
use Rattle.rule_lowering.proofs.rule.lower.Goals as goal

pub returns-then-count-limits-clause-tree : goal.returns-then-count-limits-clause-tree
returns-then-count-limits-clause-tree c =
    let schema = c.args.schema.now in
    let rule = rule_view c.args.rule.now in
    let limit = c.args.limits.now.leaves in
    let count : c.in_ok-count.count ≡ min (leaves (tree_of schema rule)) (2 ^ 127 - 1) =
    count_is c.choices_are_counted.ensures c.network_patterns_are_plain.ensures.counted (2 ^ 127 - 1) c.in_ok-count.count (length c.searched.result.now) schema rule c.searched.result.now c.as_slice-fields.result.now
    c.in_ok-count.ensures.ok refl (c.searched.ensures ∙ c.in_ok-numbers.ensures.ok.searched) c.as_slice-fields.ensures in
    refused_so (λ t. tree_view t ≡ tree_of schema rule) _ c.too_many.result (told rule.head.place c.in_ok-count.count limit) c.too_many.ensures
    (refuses rule.head.place (leaves (tree_of schema rule)) limit c.in_ok-count.count c.if-count-limits.true count)

pub returns-clause-tree : goal.returns-clause-tree
returns-clause-tree c =
    let schema = c.args.schema.now in
    let rule = rule_view c.args.rule.now in
    let limit = c.args.limits.now.leaves in
    let count : c.in_ok-count.count ≡ min (leaves (tree_of schema rule)) (2 ^ 127 - 1) =
    count_is c.choices_are_counted.ensures c.network_patterns_are_plain.ensures.counted (2 ^ 127 - 1) c.in_ok-count.count (length c.searched.result.now) schema rule c.searched.result.now c.as_slice-fields.result.now
    c.in_ok-count.ensures.ok refl (c.searched.ensures ∙ c.in_ok-numbers.ensures.ok.searched) c.as_slice-fields.ensures in
    judged _ _ (tree_of schema rule) c.lower_formulas.result
    (passes rule.head.place (leaves (tree_of schema rule)) limit c.in_ok-count.count c.args.limits.now.leaves_in.1 c.if-count-limits.false count)
    (tree_is schema c.args.rule.now c.as_slice-fields.result.now c.as_slice.result.now c.deref.result.now c.as_slice-fields.ensures c.as_slice.ensures c.deref.ensures.value)
    c.lower_formulas.ensures.ok c.lower_formulas.ensures.err

pub returns-clause-sound : goal.returns-clause-sound
returns-clause-sound c = λ whole filled fits.
    let schema = c.args.schema.now in
    let rule = rule_view c.args.rule.now in
    kept (IsSound schema.fields) _ (tree_of schema rule) c.lower_formulas.result
    (tree_is schema c.args.rule.now c.as_slice-fields.result.now c.as_slice.result.now c.deref.result.now c.as_slice-fields.ensures c.as_slice.ensures c.deref.ensures.value)
    (c.tree_is_sound.ensures schema rule whole filled fits) c.lower_formulas.ensures.ok

pub returns-clause-means : goal.returns-clause-means
returns-clause-means c = λ whole fits.
    let schema = c.args.schema.now in
    let rule = rule_view c.args.rule.now in
    kept (λ t. (row : List (List Value)) → IsEvent schema.fields row → TreeHolds row t ↔ Matches schema.fields row rule) _ (tree_of schema rule) c.lower_formulas.result
    (tree_is schema c.args.rule.now c.as_slice-fields.result.now c.as_slice.result.now c.deref.result.now c.as_slice-fields.ensures c.as_slice.ensures c.deref.ensures.value)
    (λ row event. c.tree_means_rule.ensures schema rule row whole fits event) c.lower_formulas.ensures.ok
