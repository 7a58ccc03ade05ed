use Rattle.std.proofs.Common.{◌∙◌, ◌++◌, ap, arith, length, List, map, drop}
use Rattle.std.specs.List.{slice_get}
use Rattle.backend_core.specs.FieldAt.{kind_at}
use Rattle.backend_core.specs.View.{tree_view}
use Rattle.backend_core.specs.declared.tree.Tree.{Tree}
use Rattle.modifier_windash.specs.Choices.{choices}
use Rattle.rule_lowering.proofs.ChoiceLemmas.{choice_tree, choice_goes, fewer_left, choices_end}
use Rattle.rule_lowering.proofs.detection_trees.lower_choices.Goals as goal

pub loop-parts-init : goal.loop-parts-init
loop-parts-init c =
    ap (λ (ts : List Tree). map tree_view ts ++ map (choice_tree c.args.fields.now c.args.place (kind_at c.args.fields.now c.args.field) c.args.field c.args.cased) (drop (length ts) (choices c.args.pattern.now)))
    c.new-parts.ensures.items

pub loop-parts-smaller : goal.loop-parts-smaller
loop-parts-smaller c =
    let less = fewer_left (choices c.args.pattern.now) c.loop-parts.parts.items c.push.new.self.items c.in_ok-part.part c.in_ok-chosen.field-0 c.in-Some.chosen
    c.in_ok-push.ensures.items (c.in_ok-chosen.ensures.ok ∙ ap (slice_get (choices c.args.pattern.now)) (c.len.ensures ∙ c.loop-parts.parts.ok.0)) c.in-Some.is in
    omega (arith, less)

pub loop-parts-preserved : goal.loop-parts-preserved
loop-parts-preserved c =
    choice_goes (choice_tree c.args.fields.now c.args.place (kind_at c.args.fields.now c.args.field) c.args.field c.args.cased) (choices c.args.pattern.now) c.loop-parts.parts.items c.push.new.self.items
    c.in_ok-part.part c.in_ok-chosen.field-0 c.in-Some.chosen c.in_ok-push.ensures.items c.loop-parts.invariant
    (c.in_ok-chosen.ensures.ok ∙ ap (slice_get (choices c.args.pattern.now)) (c.len.ensures ∙ c.loop-parts.parts.ok.0)) c.in-Some.is c.in_ok-part.ensures.ok

pub returns-clause-ok : goal.returns-clause-ok
returns-clause-ok c =
    choices_end c.args.fields.now c.args.place (kind_at c.args.fields.now c.args.field) c.args.field c.args.cased c.args.pattern.now c.loop-parts.parts.items c.close_parts.result c.in_ok-chosen.field-0
    c.loop-parts.invariant (c.in_ok-chosen.ensures.ok ∙ ap (slice_get (choices c.args.pattern.now)) (c.len.ensures ∙ c.loop-parts.parts.ok.0)) c.in_default.is c.close_parts.ensures
