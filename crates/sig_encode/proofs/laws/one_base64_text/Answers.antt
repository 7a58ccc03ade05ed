use Rattle.sig_encode.proofs.Bits.{one_text}
use Rattle.sig_encode.proofs.laws.one_base64_text.Goals as goal

pub returns : goal.returns
returns c = one_text
