use Rattle.std.proofs.Common.{length}
use denote.Text.{Utf8}
use denote.Shadow.{shadow}
use Rattle.std.specs.Str.{chars}
use Rattle.sig_strings.proofs.HoleLemmas.{NameSoFar}
use Rattle.sig_strings.proofs.hole.hole_end.Given as goal

abbrev pub invariant-loop-c : goal.invariant-loop-c
invariant-loop-c l = record { text : shadow (Utf8 l.left); so_far : NameSoFar (chars l.fn.text) (chars l.left) l.named }

abbrev pub decreases-loop-c : goal.decreases-loop-c
decreases-loop-c l = length l.left
