use Rattle.std.proofs.Common.{◌≡◌, take, map}
use Rattle.yaml_tree.specs.View.{nodes_view}
use Rattle.yaml_tree.specs.Nodes.{text_in}
use Rattle.yaml_tree.proofs.copies.copy_texts.Given as goal

abbrev pub invariant-loop-part : goal.invariant-loop-part
invariant-loop-part l = l.texts ≡ map text_in (nodes_view (take l.part-index l.parts))
