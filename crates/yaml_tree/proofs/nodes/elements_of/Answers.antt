use Rattle.std.proofs.Common.{◌∙◌, ap, sym}
use Rattle.yaml_tree.specs.View.{nodes_view}
use Rattle.yaml_tree.proofs.NodeViews.{list_parts}
use Rattle.yaml_tree.proofs.nodes.elements_of.Goals as goal

pub returns-in-List-clause-some : goal.returns-in-List-clause-some
returns-in-List-clause-some c =
    list_parts c.args.node.now c.in-List.elements c.in-List.is ∙ ap nodes_view (sym c.as_slice.ensures.value)
