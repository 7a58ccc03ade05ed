use Rattle.std.proofs.Common.{◌≡◌, length, take, vec_len}
use Rattle.yaml_documents.proofs.text.widened.Given as goal

abbrev pub invariant-loop-i : goal.invariant-loop-i
invariant-loop-i l = record {
  front : take l.i l.all.items ≡ take l.i l.bytes;
  len : vec_len l.all ≡ length l.bytes;
}
