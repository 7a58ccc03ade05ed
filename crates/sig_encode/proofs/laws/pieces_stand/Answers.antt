use Rattle.sig_encode.proofs.Cuts.{piece_stands}
use Rattle.sig_encode.proofs.laws.pieces_stand.Goals as goal

pub returns : goal.returns
returns c = piece_stands
