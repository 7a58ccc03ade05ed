use Rattle.std.proofs.Common.{◌∙◌, ◌≡◌, ap, subst, sym, map, List, IfOk}
use Rattle.backend_core.specs.Trees.{Plain}
use Rattle.backend_core.specs.View.{tree_view}
use Rattle.backend_core.specs.declared.tree.Tree.{Tree}
use Rattle.modifier_words.specs.declared.modifier.Joined.TheVariants.{Any}
use Rattle.rule_lowering.specs.Joining.{closed}
use Rattle.rule_lowering.proofs.Levels.{numbered_at, numbered_past}
use Rattle.rule_lowering.proofs.detection_trees.lower_numbered.Goals as goal

pub returns-in-Some-clause-ok : goal.returns-in-Some-clause-ok
returns-in-Some-clause-ok c =
    let found = c.in-Some.ensures.lookup in
    let P : Plain → Type 0 = λ p. IfOk c.lower_detection.result (λ t. tree_view t ≡ p) in
    subst P (sym (numbered_at c.args.fields.now c.args.detections.now c.args.number c.in-Some.detection.now found.3.0 found.1)) c.lower_detection.ensures.ok

pub returns-in-None-clause-ok : goal.returns-in-None-clause-ok
returns-in-None-clause-ok c =
    c.close_parts.ensures
    ∙ (ap (λ (ts : List Tree). closed Any (map tree_view ts)) c.new.ensures.items
    ∙ sym (numbered_past c.args.fields.now c.args.detections.now c.args.number c.in-None.ensures.lookup.3))
