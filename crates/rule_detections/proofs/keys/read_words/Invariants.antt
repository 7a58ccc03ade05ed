use Rattle.std.proofs.Common.{◌≡◌, ◌++◌}
use Rattle.rule_detections.specs.Pieces.{left_in, pieces_behind}
use Rattle.rule_detections.proofs.keys.read_words.Given as goal

abbrev pub invariant-loop-left : goal.invariant-loop-left
invariant-loop-left l = l.words ++ pieces_behind l.left ≡ pieces_behind l.behind

abbrev pub decreases-loop-left : goal.decreases-loop-left
decreases-loop-left l = left_in l.left
