use Rattle.std.proofs.Common.{◌≡◌, ◌++◌, drop}
use Rattle.sig_base.specs.Folding.{folded}
use Rattle.event_read.proofs.repeats.push_folded.Given as goal

abbrev pub invariant-loop-c : goal.invariant-loop-c
invariant-loop-c l = l.text ++ folded (drop l.c-index l.characters) ≡ l.initial.text ++ folded l.characters
