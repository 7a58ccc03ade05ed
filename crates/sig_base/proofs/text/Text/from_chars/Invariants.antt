use Rattle.std.proofs.Common.{◌≡◌, take}
use Rattle.sig_base.proofs.text.Text.from_chars.Given as goal

abbrev pub invariant-loop-c : goal.invariant-loop-c
invariant-loop-c l = l.text ≡ take l.c-index l.all
