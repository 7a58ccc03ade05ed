use Rattle.std.proofs.Common.{◌≡◌, ◌++◌, drop, map}
use Rattle.backend_core.specs.View.{tree_view}
use Rattle.backend_core.proofs.tree.Tree.+copy.Given as goal

abbrev pub invariant-loop-part : goal.invariant-loop-part
invariant-loop-part l = map tree_view l.copies.items ++ map tree_view (drop l.part-index l.part-items) ≡ map tree_view l.part-items

abbrev pub invariant-loop-part-2 : goal.invariant-loop-part-2
invariant-loop-part-2 l = map tree_view l.copies.items ++ map tree_view (drop l.part-index l.part-items) ≡ map tree_view l.part-items
