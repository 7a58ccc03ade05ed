use Rattle.std.proofs.Common.{◌≡◌, map}
use Rattle.lucene_lang.specs.declared.query.Glyph.TheVariants.{Char}
use Rattle.lucene_read.proofs.leaves.plain_glyphs.Given as goal

abbrev pub invariant-loop-c : goal.invariant-loop-c
invariant-loop-c l = l.all ≡ map (λ c. Char c) l.yielded
