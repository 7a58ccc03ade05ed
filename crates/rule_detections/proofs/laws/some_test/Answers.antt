use Rattle.rule_detections.proofs.TestsLemmas.{has_test}
use Rattle.rule_detections.proofs.laws.some_test.Goals as goal

pub returns : goal.returns
returns c = has_test
