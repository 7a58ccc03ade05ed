use Rattle.rule_detections.proofs.PatternLemmas.{keyword_patterns}
use Rattle.rule_detections.proofs.laws.keyword_tests.Goals as goal

pub returns : goal.returns
returns c = keyword_patterns
