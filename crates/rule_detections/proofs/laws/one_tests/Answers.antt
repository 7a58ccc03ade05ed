use Rattle.rule_detections.proofs.TestsLemmas.{one_list}
use Rattle.rule_detections.proofs.laws.one_tests.Goals as goal

pub returns : goal.returns
returns c = one_list c.one_list_of_patterns.ensures.same c.one_network.ensures.same
