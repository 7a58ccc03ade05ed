use Rattle.std.proofs.Common.{◌≡◌, ◌++◌, length, drop}
use Rattle.std.specs.Str.{chars}
use Rattle.sig_conditions.specs.Words.{words, words_from}
use Rattle.sig_conditions.proofs.scan.scan.Given as goal

abbrev pub invariant-loop-c : goal.invariant-loop-c
invariant-loop-c l = l.scanner.words.items ++ words_from l.scanner.run (drop (length l.yielded) (chars l.text)) ≡ words (chars l.text)
