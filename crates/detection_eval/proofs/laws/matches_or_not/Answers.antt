use Rattle.detection_eval.proofs.Decided.{matches_decided}
use Rattle.detection_eval.proofs.laws.matches_or_not.Goals as goal

pub returns : goal.returns
returns c = λ fields row rule. matches_decided fields row rule
