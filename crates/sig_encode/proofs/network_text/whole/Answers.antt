use Rattle.std.proofs.Common.{◌∙◌}
use Rattle.sig_encode.proofs.network_text.whole.Goals as goal

pub returns : goal.returns
returns c = (c.in_ok-bits.ensures.0, c.of.ensures.bits ∙ c.in_ok-bits.ensures.1, c.of.ensures.prefix)
