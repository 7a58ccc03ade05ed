use Rattle.std.proofs.Common.{◌≡◌, ◌++◌, ◌≤◌, drop}
use Rattle.yaml_inline.specs.Scalar.{fold_from}
use Rattle.yaml_blocks.specs.Chompings.{texts_view}
use Rattle.yaml_blocks.proofs.scalar.push_folded_from.Given as goal

abbrev pub invariant-loop-at : goal.invariant-loop-at
invariant-loop-at l = record {
  counted : l.empty ≤ l.at;
  far : l.content ++ fold_from l.before l.empty (texts_view (drop l.at l.texts)) ≡ l.fn.content ++ fold_from l.fn.begins 0 (texts_view l.texts);
}
