use Rattle.std.proofs.Common.{◌≡◌, length}
use Rattle.std.specs.Str.{chars, bytes_eq}
use Rattle.sig_base.specs.Folding.{folded}
use denote.Text.{Utf8}
use denote.Shadow.{shadow}
use Rattle.sig_base.proofs.folding.same_folded.Given as goal

abbrev pub invariant-loop-c : goal.invariant-loop-c
invariant-loop-c l = record {
  left : shadow (Utf8 l.left);
  right : shadow (Utf8 l.right);
  ran : bytes_eq (folded (chars l.left)) (folded (chars l.right)) ≡ bytes_eq (folded (chars l.fn.one)) (folded (chars l.fn.other));
}

abbrev pub decreases-loop-c : goal.decreases-loop-c
decreases-loop-c l = length l.left
