use Rattle.std.proofs.Common.{◌≡◌, ◌++◌, length, map}
use Rattle.std.specs.Prelude.{false}
use Rattle.std.specs.Vec.Iter.{into_iter_items, into_iter_len}
use Rattle.backend_core.specs.FieldAt.{kind_at}
use Rattle.backend_core.specs.View.{tree_view}
use Rattle.rule_lowering.proofs.ChoiceLemmas.{choice_tree}
use Rattle.rule_lowering.proofs.detection_trees.lower_network.Given as goal

abbrev pub invariant-loop-pattern : goal.invariant-loop-pattern
invariant-loop-pattern l = record {
  built : map tree_view l.parts.items ++ map (choice_tree l.fields l.place (kind_at l.fields l.field) l.field false) (into_iter_items l.pattern-iterator)
      ≡ map (choice_tree l.fields l.place (kind_at l.fields l.field) l.field false) (into_iter_items l.initial.pattern-iterator);
  left : into_iter_len l.pattern-iterator ≡ length (into_iter_items l.pattern-iterator);
}
