use Rattle.std.proofs.Common.{◌≡◌, ◌++◌, take, drop}
use Rattle.sig_strings.specs.Edits.{dashes_after, dashes_of}
use Rattle.sig_strings.proofs.edits.make_dashes.Given as goal

abbrev pub invariant-loop-i : goal.invariant-loop-i
invariant-loop-i l = take l.i l.parts.items ++ dashes_after l.in_word (drop l.i l.parts.items) ≡ dashes_of l.fn.parts.items
