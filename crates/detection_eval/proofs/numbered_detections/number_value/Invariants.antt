use Rattle.std.proofs.Common.{◌≡◌, ◌++◌, drop, map}
use Rattle.detection_eval.specs.Ready.{numbered_test}
use Rattle.detection_eval.proofs.numbered_detections.number_value.Given as goal

abbrev pub invariant-loop-test : goal.invariant-loop-test
invariant-loop-test l = l.all ++ map (numbered_test l.fields l.texts) (drop l.test-index l.tests) ≡ map (numbered_test l.fields l.texts) l.tests
