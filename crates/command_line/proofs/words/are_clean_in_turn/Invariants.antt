use Rattle.std.proofs.Common.{◌≡◌, map, drop, false}
use Rattle.command_line.specs.Clean as clean
use Rattle.command_line.proofs.words.are_clean_in_turn.Given as goal

abbrev pub invariant-loop-word : goal.invariant-loop-word
invariant-loop-word g l = clean.clean_from l.ended (map g.S.AsStr.text (drop l.word-index l.words)) ≡ clean.clean_from false (map g.S.AsStr.text l.fn.words)
