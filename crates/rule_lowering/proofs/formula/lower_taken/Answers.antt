use Rattle.std.proofs.Common.{◌∙◌, ap, sym, map}
use Rattle.backend_core.specs.View.{tree_view}
use Rattle.rule_lowering.specs.Joining.{join}
use Rattle.rule_lowering.specs.TreeOf.{numbered_tree}
use Rattle.rule_lowering.proofs.LeafCounts.{taken_trees_are}
use Rattle.rule_lowering.proofs.Levels.{level_ends}
use Rattle.rule_lowering.proofs.formula.lower_taken.Goals as goal

pub returns-clause-ok : goal.returns-clause-ok
returns-clause-ok c =
    let fields = c.args.fields.now in
    let ds = c.args.detections.now in
    level_ends c.args.joined (numbered_tree fields ds) c.loop-number.number-index c.args.taken.now
    (map tree_view c.loop-number.parts.items) (tree_view c.close_parts.result) c.loop-number-test.false c.loop-number.invariant c.close_parts.ensures
    ∙ ap (join c.args.joined) (sym (taken_trees_are fields ds c.args.taken.now))
