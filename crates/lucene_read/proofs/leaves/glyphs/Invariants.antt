use Rattle.std.proofs.Common.{◌≡◌, take, map}
use Rattle.lucene_lang.specs.Query.{glyph}
use Rattle.lucene_read.proofs.leaves.glyphs.Given as goal

abbrev pub invariant-loop-c : goal.invariant-loop-c
invariant-loop-c l = l.all ≡ map glyph (take l.c-index l.run)
