use Rattle.std.proofs.Common.{◌≡◌, take, map}
use Rattle.lucene_lang.specs.Tokens.{character}
use Rattle.lucene_scan.proofs.run_kinds.text_of.Given as goal

abbrev pub invariant-loop-c : goal.invariant-loop-c
invariant-loop-c l = l.text ≡ map character (take l.c-index l.c-items)
