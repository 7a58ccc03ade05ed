use Rattle.sig_encode.proofs.Existing.{same_pieces}
use Rattle.sig_encode.proofs.laws.same_pieces.Goals as goal

pub returns : goal.returns
returns c = same_pieces
