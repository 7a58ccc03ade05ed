use Rattle.rule_detections.proofs.PatternLemmas.{value_plain}
use Rattle.rule_detections.proofs.laws.plain_tests.Goals as goal

pub returns : goal.returns
returns c =
    value_plain c.patterns_have_plain_text.ensures.scalars
    (λ t n h. (c.networks_are_bounded.ensures.bits t n h, c.networks_are_bounded.ensures.prefix t n h))
