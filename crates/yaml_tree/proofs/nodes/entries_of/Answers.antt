use Rattle.std.proofs.Common.{◌∙◌, ap, sym}
use Rattle.yaml_tree.specs.View.{entries_view}
use Rattle.yaml_tree.proofs.NodeViews.{map_entries}
use Rattle.yaml_tree.proofs.nodes.entries_of.Goals as goal

pub returns-in-Map-clause-some : goal.returns-in-Map-clause-some
returns-in-Map-clause-some c =
    map_entries c.args.node.now c.in-Map.entries c.in-Map.is ∙ ap entries_view (sym c.as_slice.ensures.value)
