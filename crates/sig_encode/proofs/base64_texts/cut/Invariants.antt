use Rattle.std.proofs.Common.{◌≡◌, take}
use Rattle.sig_encode.proofs.base64_texts.cut.Given as goal

abbrev pub invariant-loop-byte : goal.invariant-loop-byte
invariant-loop-byte l = l.piece ≡ take l.byte-index l.part
