use Rattle.std.proofs.Common.{◌≡◌, ◌++◌, take}
use Rattle.sig_base.proofs.text.Text.push_all.Given as goal

abbrev pub invariant-loop-c : goal.invariant-loop-c
invariant-loop-c l = l.self ≡ l.fn.self ++ take l.c-index l.all
