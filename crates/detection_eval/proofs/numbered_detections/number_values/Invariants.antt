use Rattle.std.proofs.Common.{◌≡◌, ◌++◌, drop, map}
use Rattle.detection_eval.specs.Ready.{numbered_test}
use Rattle.detection_eval.proofs.numbered_detections.number_values.Given as goal

abbrev pub invariant-loop-tests : goal.invariant-loop-tests
invariant-loop-tests l =
    l.all ++ map (map (numbered_test l.fields l.texts)) (drop l.tests-index l.values) ≡ map (map (numbered_test l.fields l.texts)) l.values
