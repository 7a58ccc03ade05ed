use Rattle.std.proofs.Common.{◌≡◌, ◌∙◌, ◌∷◌, ap, length, map, arith}
use Rattle.std.specs.Prelude.{false}
use Rattle.std.specs.Vec.Iter.{into_iter_items}
use Rattle.backend_core.specs.FieldAt.{kind_at}
use Rattle.rule_lowering.proofs.ChoiceLemmas.{choice_tree, patterns_go, patterns_end}
use Rattle.rule_lowering.proofs.detection_trees.lower_network.Goals as goal

pub loop-pattern-preserved : goal.loop-pattern-preserved
loop-pattern-preserved c =
    let at = c.loop-pattern in
    let steps : into_iter_items at.pattern-iterator ≡ c.in-Some.pattern ∷ into_iter_items c.next.new.self = c.in-Some.ensures.steps.0 in
    record {
      built = patterns_go (choice_tree c.args.fields.now c.args.place (kind_at c.args.fields.now c.args.field) c.args.field false) at.parts.items c.push.new.self.items c.in_ok-part.part c.in-Some.pattern
          c.in_ok-pattern.pattern _ _ _ steps at.invariant.built c.in_ok-pattern.ensures.ok c.in_ok-part.ensures.ok c.in_ok-push.ensures.items;
      left = let was = at.invariant.left in let gone = c.in-Some.ensures.steps.1 in let short = ap length steps in omega arith;
    }

pub returns-clause-ok : goal.returns-clause-ok
returns-clause-ok c =
    let at = c.loop-pattern in
    let all = c.into_iter-pattern-iterator.ensures.into_iter_gives.0 ∙ c.in_ok-patterns.ensures.ok in
    patterns_end c.args.fields.now c.args.place (kind_at c.args.fields.now c.args.field) c.args.field false _ _ at.parts.items c.close_parts.result _ c.in-None.ensures.steps.0 at.invariant.left
    (at.invariant.built ∙ ap (map (choice_tree c.args.fields.now c.args.place (kind_at c.args.fields.now c.args.field) c.args.field false)) all) c.close_parts.ensures
