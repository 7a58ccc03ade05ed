use Rattle.sig_encode.proofs.Existing.{some_text, some_pieces}
use Rattle.sig_encode.proofs.laws.some_texts.Goals as goal

pub returns : goal.returns
returns c = record { text = some_text; pieces = some_pieces }
