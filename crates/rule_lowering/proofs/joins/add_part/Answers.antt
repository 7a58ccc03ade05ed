use Rattle.backend_core.specs.Joins.{all_parts, any_parts}
use Rattle.backend_core.specs.View.{tree_view}
use Rattle.modifier_words.specs.declared.modifier.Joined.TheVariants.{All, Any}
use Rattle.rule_lowering.proofs.ViewLemmas.{listed_all, listed_any, adds}
use Rattle.rule_lowering.proofs.joins.add_part.Goals as goal

pub returns-in-All : goal.returns-in-All
returns-in-All c =
    adds c.add_to_all.result c.args.parts.now.items c.add_to_all.new.parts.items (tree_view c.args.tree) c.args.joined All all_parts c.in-All.is (listed_all (tree_view c.args.tree)) c.add_to_all.ensures

pub returns-in-Any : goal.returns-in-Any
returns-in-Any c =
    adds c.add_to_any.result c.args.parts.now.items c.add_to_any.new.parts.items (tree_view c.args.tree) c.args.joined Any any_parts c.in-Any.is (listed_any (tree_view c.args.tree)) c.add_to_any.ensures
