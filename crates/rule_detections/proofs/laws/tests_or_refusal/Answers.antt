use Rattle.rule_detections.proofs.TestsLemmas.{some_list}
use Rattle.rule_detections.proofs.laws.tests_or_refusal.Goals as goal

pub returns : goal.returns
returns c = some_list c.one_list_of_patterns.ensures.some c.one_network.ensures.some
